-- Where no connection listens, none is dropped.
use Rattle.std.proofs.Common.{◌≡◌, Bool, true, false, not, ◌&&◌, ◌||◌, List, [], ◌∷◌, ◌++◌, filter, Option, Some, None, refl, sym, ◌∙◌, true≢false}
use Rattle.std.specs.List.{list_any}
use Rattle.cip_types.specs.declared.names.Triad.{Triad}
use Rattle.cip_productions.specs.Kinds.{is_listener}
use Rattle.adapter_table.specs.Connections.{Row}
use Rattle.adapter_table.specs.Rows.{has_triad, is_established, is_unsupported}
use Rattle.adapter_table.specs.Lemmas.SoundLemmas.{any_filter}
use Rattle.adapter_table.specs.Closing.{without_triad, unsupported, stays, staying}
use Rattle.conn_slab.specs.Connections.{is_listening, without}
use Rattle.indexed_connections.specs.List.Lone.{neither}

-- ---- none listens

pub no_listener : (e k s : Bool) → (e && k) ≡ false → (e && (k && s)) ≡ false
no_listener true true s none = absurd (true≢false none)
no_listener true false s none = refl
no_listener false k s none = refl

pub none_dropped : (all rows : List Row) → list_any is_listening rows ≡ false → filter (is_unsupported all) rows ≡ []
none_dropped all [] none = refl
none_dropped all (row ∷ rows) none =
    let parts = neither (is_listening row) (list_any is_listening rows) none in
    let stays_here : is_unsupported all row ≡ false = no_listener (is_established row) (is_listener row.kind) _ parts.0 in
    rw stays_here (none_dropped all rows parts.1)

pub none_lost : (triad : Triad) (rows : List Row) → list_any is_listening rows ≡ false → unsupported (without_triad triad rows) ≡ []
none_lost triad rows none = none_dropped (without_triad triad rows) (without_triad triad rows) (any_filter (λ row. not (has_triad triad row)) is_listening rows none)

any_without : (test : Row → Bool) (removed : Option Triad) (rows : List Row) → list_any test rows ≡ false → list_any test (without removed rows) ≡ false
any_without test None rows none = none
any_without test (Some triad) rows none = any_filter (λ row. not (has_triad triad row)) test rows none

any_last : (test : Row → Bool) (rows : List Row) (row : Row) → list_any test rows ≡ false → test row ≡ false → list_any test (rows ++ row ∷ []) ≡ false
any_last test [] row none fails = rw fails refl
any_last test (x ∷ rows) row none fails =
    let parts = neither (test x) (list_any test rows) none in
    rw (parts.0, any_last test rows row parts.1 fails) refl

-- none passes where none may, and one more does not
pub none_opened : (test : Row → Bool) (may more : Bool) (removed : Option Triad) (rows : List Row) (row : Row) → more ≡ (may || test row) → (may ≡ false → list_any test rows ≡ false) → more ≡ false → list_any test (without removed rows ++ row ∷ []) ≡ false
none_opened test may more removed rows row is none off =
    let parts = neither may (test row) (sym is ∙ off) in
    any_last test (without removed rows) row (any_without test removed rows (none parts.0)) parts.1

pub none_staying : (test : Row → Bool) (triad : Triad) (rows : List Row) → list_any test rows ≡ false → list_any test (staying (without_triad triad rows)) ≡ false
none_staying test triad rows none =
    any_filter (stays (without_triad triad rows)) test (without_triad triad rows) (any_filter (λ row. not (has_triad triad row)) test rows none)
