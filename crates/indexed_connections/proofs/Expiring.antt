-- Connections that time out one after another, in any order.
use Rattle.std.proofs.Common.{◌≡◌, Bool, true, false, cond, List, [], ◌∷◌, map, filter, refl, sym, ap, ◌∙◌}
use Rattle.std.specs.List.{list_any}
use Rattle.cip_types.specs.declared.names.Ms.{Ms}
use Rattle.cip_types.specs.declared.names.Triad.{Triad}
use Rattle.cip_types.specs.Order.{inserted, in_order}
use Rattle.adapter_table.specs.Connections.{Row}
use Rattle.adapter_table.specs.Rows.{is_established, same_triad, has_triad, holds_triad}
use Rattle.adapter_table.specs.Ticks.{has_expired, by_deadline, expired, expired_rows}
use Rattle.adapter_table.specs.Sound.{TriadsDiffer}
use Rattle.conn_slab.specs.Connections.{timed_out, timed_out_if}
use Rattle.indexed_connections.specs.List.Lone.{both_hold, neither, triad_itself, other_way}
use Rattle.indexed_connections.specs.CountChanges.{timed_out_each}
use Rattle.indexed_connections.proofs.Removals.{not_out, none_out}

-- ---- the order does not matter

once : (c : Bool) (triad : Triad) (row : Row) → holds_triad triad row ≡ c → timed_out_if triad row ≡ cond c (timed_out row) row
once c triad row is = ap (λ b. cond b (timed_out row) row) is

swap_step : (c d : Bool) (a b : Triad) (row : Row) → holds_triad a row ≡ c → holds_triad b row ≡ d → timed_out_if a (cond d (timed_out row) row) ≡ timed_out_if b (cond c (timed_out row) row)
swap_step true true a b row is_a is_b = refl
swap_step true false a b row is_a is_b = once true a row is_a
swap_step false true a b row is_a is_b = sym (once true b row is_b)
swap_step false false a b row is_a is_b = once false a row is_a ∙ sym (once false b row is_b)

swapped : (a b : Triad) (rows : List Row) → map (timed_out_if a) (map (timed_out_if b) rows) ≡ map (timed_out_if b) (map (timed_out_if a) rows)
swapped a b [] = refl
swapped a b (row ∷ rows) =
    ap (λ (r : Row). r ∷ map (timed_out_if a) (map (timed_out_if b) rows)) (swap_step (holds_triad a row) (holds_triad b row) a b row refl refl)
    ∙ ap (λ (l : List Row). timed_out_if b (timed_out_if a row) ∷ l) (swapped a b rows)

inserted_step : (c : Bool) (x y : Row) (ends more rows : List Row) → timed_out_each more (map (timed_out_if y.triad) rows) ≡ timed_out_each ends (map (timed_out_if x.triad) (map (timed_out_if y.triad) rows))
    → timed_out_each (cond c (x ∷ y ∷ ends) (y ∷ more)) rows ≡ timed_out_each (y ∷ ends) (map (timed_out_if x.triad) rows)
inserted_step true x y ends more rows rest = refl
inserted_step false x y ends more rows rest = rest ∙ ap (timed_out_each ends) (swapped x.triad y.triad rows)

inserted_each : (x : Row) (ends rows : List Row) → timed_out_each (inserted by_deadline x ends) rows ≡ timed_out_each ends (map (timed_out_if x.triad) rows)
inserted_each x [] rows = refl
inserted_each x (y ∷ ends) rows =
    inserted_step (by_deadline x y) x y ends (inserted by_deadline x ends) rows (inserted_each x ends (map (timed_out_if y.triad) rows))

ordered_each : (ends rows : List Row) → timed_out_each (in_order by_deadline ends) rows ≡ timed_out_each ends rows
ordered_each [] rows = refl
ordered_each (x ∷ ends) rows = inserted_each x (in_order by_deadline ends) rows ∙ ordered_each ends (map (timed_out_if x.triad) rows)

-- ---- each of its own triad

first_kept : (x : Row) (ends rows : List Row) → list_any (λ end. same_triad x.triad end.triad) ends ≡ false → timed_out_each ends (x ∷ rows) ≡ x ∷ timed_out_each ends rows
first_kept x [] rows none = refl
first_kept x (end ∷ ends) rows none =
    let parts = neither (same_triad x.triad end.triad) (list_any (λ end. same_triad x.triad end.triad) ends) none in
    ap (λ (r : Row). timed_out_each ends (r ∷ map (timed_out_if end.triad) rows)) (not_out (is_established x) (has_triad end.triad x) x parts.0)
    ∙ first_kept x ends (map (timed_out_if end.triad) rows) parts.1

none_of : (triad : Triad) (p : Row → Bool) (rows : List Row) → list_any (has_triad triad) rows ≡ false → list_any (λ end. same_triad triad end.triad) (filter p rows) ≡ false
none_of triad p [] none = refl
none_of triad p (x ∷ rows) none =
    let parts = neither (has_triad triad x) (list_any (has_triad triad) rows) none in
    split (p x) (other_way x.triad triad parts.0) (none_of triad p rows parts.1)
  where
    split : (b : Bool) → same_triad triad x.triad ≡ false → list_any (λ end. same_triad triad end.triad) (filter p rows) ≡ false → list_any (λ end. same_triad triad end.triad) (cond b (x ∷ filter p rows) (filter p rows)) ≡ false
    split true other rest = rw other rest
    split false other rest = rest

each_once : (clock : Ms) (rows : List Row) → TriadsDiffer rows → timed_out_each (filter (has_expired clock) rows) rows ≡ expired_rows clock rows
each_once clock [] differ = refl
each_once clock (row ∷ rows) differ = split (has_expired clock row) refl (each_once clock rows differ.1)
  where
    ends : List Row
    ends = filter (has_expired clock) rows

    here : has_expired clock row ≡ true → timed_out_if row.triad row ≡ timed_out row
    here is = rw ((both_hold (is_established row) _ is).0, triad_itself row.triad) refl

    split : (b : Bool) → has_expired clock row ≡ b → timed_out_each ends rows ≡ expired_rows clock rows
        → timed_out_each (cond b (row ∷ ends) ends) (row ∷ rows) ≡ cond b (timed_out row) row ∷ expired_rows clock rows
    split true is rest =
        ap (λ (r : Row). timed_out_each ends (r ∷ map (timed_out_if row.triad) rows)) (here is)
        ∙ ap (λ (l : List Row). timed_out_each ends (timed_out row ∷ l)) (none_out row.triad rows differ.0)
        ∙ first_kept (timed_out row) ends rows (none_of row.triad (has_expired clock) rows differ.0)
        ∙ ap (λ (l : List Row). timed_out row ∷ l) rest
    split false is rest =
        first_kept row ends rows (none_of row.triad (has_expired clock) rows differ.0) ∙ ap (λ (l : List Row). row ∷ l) rest

-- the connections that expire time out
pub expired_each : (clock : Ms) (ends rows : List Row) → TriadsDiffer rows → ends ≡ expired clock rows → timed_out_each ends rows ≡ expired_rows clock rows
expired_each clock ends rows differ are =
    ap (λ (l : List Row). timed_out_each l rows) are ∙ ordered_each (filter (has_expired clock) rows) rows ∙ each_once clock rows differ

-- ---- and keep their triads

keeps_step : (b : Bool) (row : Row) → (cond b (timed_out row) row).triad ≡ row.triad
keeps_step true row = refl
keeps_step false row = refl

pub keeps_triad : (triad : Triad) (row : Row) → (timed_out_if triad row).triad ≡ row.triad
keeps_triad triad row = keeps_step (holds_triad triad row) row
