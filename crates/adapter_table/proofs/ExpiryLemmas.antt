-- What a tick leaves at the outputs: the fault action, where the owner times out.
use Rattle.std.proofs.Common.{◌≡◌, ◌≤◌, ℕ, ◌+◌, nat_lt, Bool, true, false, cond, not, ◌&&◌, ◌||◌, List, [], ◌∷◌, length, map, filter, find, Some, None, refl, ◌∙◌, ap, arith}
use Rattle.std.specs.Option.{unwrap_or}
use Rattle.std.specs.List.{list_any}
use Rattle.std.proofs.lemmas.Bool.Decides.{nat_tests}
use Rattle.cip_types.specs.declared.names.Ms.{Ms}
use Rattle.adapter_table.specs.declared.profile.OutputPoint.{OutputPoint}
use Rattle.adapter_table.specs.declared.profile.Profile.{Profile}
use Rattle.adapter_table.specs.Connections.{Row}
use Rattle.adapter_table.specs.declared.table.PointValue.{PointValue}
use Rattle.adapter_table.specs.Profiles.{is_output_at}
use Rattle.adapter_table.specs.Points.{bytes_at}
use Rattle.adapter_table.specs.Rows.{drives, drivers}
use Rattle.adapter_table.specs.Closing.{staying, closed_values}
use Rattle.adapter_table.specs.Productions.{produced_row}
use Rattle.adapter_table.specs.Ticks.{has_expired, by_deadline, expired, expired_rows, expired_values}
use Rattle.adapter_table.specs.Shapes.{IsShaped}
use Rattle.adapter_table.specs.Scratch.{left_lost, is_lost}
use Rattle.adapter_table.proofs.OrderLemmas.{count_in_order}
use Rattle.adapter_table.specs.Lemmas.LikeLemmas.{any_driver_kept, due_keeps}
use Rattle.adapter_table.proofs.FadeLemmas.{count_expired}
use Rattle.adapter_table.specs.Lemmas.DriverLemmas.{any_counted, none_counted, any_staying}
use Rattle.adapter_table.specs.Fitting.{shaped_closed}
use Rattle.adapter_table.proofs.ServedLemmas.{closed_here, closed_beside}

-- ---- whose owner times out

lost_by : (before after removed : ℕ) → after + removed ≡ before → before ≤ 1 → (nat_lt 0 before && not (nat_lt 0 after)) ≡ nat_lt 0 removed
lost_by before after removed all one = grind (arith, nat_tests)

-- an output loses its owner where one of those that time out drives it
pub owner_expired : (clock : Ms) (rows : List Row) (point : ℕ) → length (drivers point rows) ≤ 1 → is_lost point rows (map (produced_row clock) (staying (expired_rows clock rows))) ≡ list_any (drives point) (expired clock rows)
owner_expired clock rows point one =
    let left = expired_rows clock rows in
    let after = any_driver_kept (produced_row clock) (due_keeps clock) point (staying left) ∙ any_staying left point ∙ any_counted (drives point) left in
    let removed = any_counted (drives point) (expired clock rows) ∙ ap (nat_lt 0) (count_in_order by_deadline (drives point) (filter (has_expired clock) rows)) in
    rw (after, removed, any_counted (drives point) rows) (lost_by _ _ _ (count_expired clock point rows) one)

-- one of them at most
pub one_expired : (clock : Ms) (rows : List Row) (point : ℕ) → length (drivers point rows) ≤ 1 → length (drivers point (expired clock rows)) ≤ 1
one_expired clock rows point one = omega (arith, count_in_order by_deadline (drives point) (filter (has_expired clock) rows), count_expired clock point rows)

-- ---- the values

-- what connections leave at an output as they time out
abbrev pub LeavesAt : Profile → List Row → List PointValue → ℕ → List ℕ → Type 0
LeavesAt profile rows values point point_bytes = bytes_at (expired_values profile rows values) point ≡ Some (unwrap_or (cond (list_any (drives point) rows) (left_lost (find (is_output_at point) profile.outputs)) None) point_bytes)

leaves_step : (b : Bool) (profile : Profile) (row : Row) (rows : List Row) (values : List PointValue) (point : ℕ) (output : OutputPoint) (point_bytes : List ℕ) → drives point row ≡ b → length (cond b (row ∷ drivers point rows) (drivers point rows)) ≤ 1 → IsShaped profile values → find (is_output_at point) profile.outputs ≡ Some output → bytes_at values point ≡ Some point_bytes → ((before : List ℕ) → length (drivers point rows) ≤ 1 → bytes_at (closed_values profile row values) point ≡ Some before → LeavesAt profile rows (closed_values profile row values) point before) → bytes_at (expired_values profile rows (closed_values profile row values)) point ≡ Some (unwrap_or (cond (b || list_any (drives point) rows) (left_lost (find (is_output_at point) profile.outputs)) None) point_bytes)
leaves_step true profile row rows values point output point_bytes drives_it one shaped is holds rest =
    let none : list_any (drives point) rows ≡ false = none_counted (drives point) rows (omega arith) in
    let left = unwrap_or (left_lost (find (is_output_at point) profile.outputs)) point_bytes in
    rw none at (rest left (omega arith) (closed_here profile row values point output point_bytes shaped drives_it is holds))
leaves_step false profile row rows values point output point_bytes other one shaped is holds rest = rest point_bytes one (closed_beside profile row values point point_bytes other holds)

-- where one of them at most drives the output
pub expired_value : (profile : Profile) (rows : List Row) (values : List PointValue) (point : ℕ) (output : OutputPoint) (point_bytes : List ℕ) → length (drivers point rows) ≤ 1 → IsShaped profile values → find (is_output_at point) profile.outputs ≡ Some output → bytes_at values point ≡ Some point_bytes → LeavesAt profile rows values point point_bytes
expired_value profile [] values point output point_bytes one shaped is holds = holds
expired_value profile (row ∷ rows) values point output point_bytes one shaped is holds =
    leaves_step (drives point row) profile row rows values point output point_bytes refl one shaped is holds
    (λ before one' holds'. expired_value profile rows (closed_values profile row values) point output before one' (shaped_closed profile row values shaped) is holds')
