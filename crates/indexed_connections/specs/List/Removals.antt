-- Connections that are removed by their triads, one after another.
use Rattle.std.proofs.Common.{◌≡◌, Bool, true, false, cond, not, List, [], ◌∷◌, map, filter, refl, ap, ◌∙◌}
use Rattle.std.specs.List.{list_any}
use Rattle.cip_types.specs.declared.names.Triad.{Triad}
use Rattle.cip_types.specs.declared.names.Ms.{Ms}
use Rattle.adapter_table.specs.declared.row.State.TheVariants.{TimedOut}
use Rattle.adapter_table.specs.Ticks.{has_expired, expired_row, expired_rows}
use Rattle.adapter_table.specs.Connections.{Row}
use Rattle.adapter_table.specs.Rows.{same_triad, has_triad, is_unsupported}
use Rattle.adapter_table.specs.Opening.{triad_of}
use Rattle.adapter_table.specs.Closing.{without_triad, unsupported, staying}
use Rattle.adapter_table.specs.Sound.{TriadsDiffer}
use Rattle.indexed_connections.specs.List.Lone.{neither, triad_itself, other_way, differ_mapped}

-- the connections without those of triads
abbrev pub without_each : List Triad → List Row → List Row
without_each [] rows = rows
without_each (triad ∷ triads) rows = without_each triads (without_triad triad rows)

pub all_stay : (test : Row → Bool) (rows : List Row) → list_any test rows ≡ false → filter (λ x. not (test x)) rows ≡ rows
all_stay test [] none = refl
all_stay test (row ∷ rows) none =
    let parts = neither (test row) (list_any test rows) none in
    rw parts.0 (ap (λ (l : List Row). row ∷ l) (all_stay test rows parts.1))

-- a connection that has none of the triads stays
first_stays : (row : Row) (triads : List Triad) (rows : List Row) → list_any (same_triad row.triad) triads ≡ false → without_each triads (row ∷ rows) ≡ row ∷ without_each triads rows
first_stays row [] rows none = refl
first_stays row (triad ∷ triads) rows none =
    let parts = neither (same_triad row.triad triad) (list_any (same_triad row.triad) triads) none in
    rw parts.0 (first_stays row triads (without_triad triad rows) parts.1)

none_of : (row : Row) (p : Row → Bool) (rows : List Row) → list_any (has_triad row.triad) rows ≡ false → list_any (same_triad row.triad) (map triad_of (filter p rows)) ≡ false
none_of row p [] none = refl
none_of row p (x ∷ rows) none =
    let parts = neither (has_triad row.triad x) (list_any (has_triad row.triad) rows) none in
    split (p x) (other_way x.triad row.triad parts.0) (none_of row p rows parts.1)
  where
    split : (b : Bool) → same_triad row.triad x.triad ≡ false → list_any (same_triad row.triad) (map triad_of (filter p rows)) ≡ false → list_any (same_triad row.triad) (map triad_of (cond b (x ∷ filter p rows) (filter p rows))) ≡ false
    split true other rest = rw other rest
    split false other rest = rest

without_passing : (p : Row → Bool) (rows : List Row) → TriadsDiffer rows → without_each (map triad_of (filter p rows)) rows ≡ filter (λ x. not (p x)) rows
without_passing p [] differ = refl
without_passing p (row ∷ rows) differ = split (p row) (without_passing p rows differ.1)
  where
    split : (b : Bool) → without_each (map triad_of (filter p rows)) rows ≡ filter (λ x. not (p x)) rows
        → without_each (map triad_of (cond b (row ∷ filter p rows) (filter p rows))) (row ∷ rows) ≡ cond (not b) (row ∷ filter (λ x. not (p x)) rows) (filter (λ x. not (p x)) rows)
    split true rest =
        let removed : without_triad row.triad (row ∷ rows) ≡ rows = rw (triad_itself row.triad) (all_stay (has_triad row.triad) rows differ.0) in
        ap (without_each (map triad_of (filter p rows))) removed ∙ rest
    split false rest = first_stays row (map triad_of (filter p rows)) rows (none_of row p rows differ.0) ∙ ap (λ (l : List Row). row ∷ l) rest

-- without the listeners that have no support, the others stay
pub without_unsupported : (rows : List Row) (triads : List Triad) → TriadsDiffer rows → triads ≡ map triad_of (unsupported rows) → without_each triads rows ≡ staying rows
without_unsupported rows triads differ are = ap (λ (l : List Triad). without_each l rows) are ∙ without_passing (is_unsupported rows) rows differ

-- ---- connections that time out have their triads

keeps_step : (b : Bool) (row : Row) → (cond b (let r : Row = record row { state = TimedOut } in r) row).triad ≡ row.triad
keeps_step true row = refl
keeps_step false row = refl

pub expired_differ : (clock : Ms) (rows : List Row) → TriadsDiffer rows → TriadsDiffer (expired_rows clock rows)
expired_differ clock rows differ = differ_mapped (expired_row clock) (λ row. keeps_step (has_expired clock row) row) rows differ
