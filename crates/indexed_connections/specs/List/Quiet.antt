-- Before the first connection is due nothing happens to connections.
use Rattle.std.proofs.Common.{◌≡◌, ◌<◌, ℕ, ◌&&◌, false, List, [], ◌∷◌, refl, arith}
use Rattle.std.specs.Prelude.{nat_le}
use Rattle.std.specs.List.{list_any}
use Rattle.std.proofs.lemmas.Bool.Decides.{nat_tests}
use Rattle.cip_types.specs.declared.names.Ms.{Ms}
use Rattle.adapter_table.specs.Connections.{Row}
use Rattle.adapter_table.specs.declared.row.State.{State}
use Rattle.adapter_table.specs.declared.row.State.TheVariants.{Established, TimedOut}
use Rattle.adapter_table.specs.Rows.{lives}
use Rattle.adapter_table.specs.Productions.{is_due, state_is_due}
use Rattle.adapter_table.specs.Ticks.{has_expired}
use Rattle.cip_tables.specs.Wakes.{connection_due, connections_due}

-- before this time no deadline of an established connection is reached, and no producer is due
abbrev pub IsQuietBefore : ℕ → List Row → Type 0
IsQuietBefore bound rows = (clock : Ms) → clock.0 < bound → (list_any (has_expired clock) rows ≡ false) × (list_any (is_due clock) rows ≡ false)

not_yet : (early late : ℕ) → early < late → nat_le late early ≡ false
not_yet early late lt = grind (arith, nat_tests)

unexpired : (clock : Ms) (deadline : ℕ) (state : State) → clock.0 < connection_due deadline state → (lives state && nat_le deadline clock.0) ≡ false
unexpired clock deadline (Established production) early = not_yet clock.0 deadline (omega arith)
unexpired clock deadline TimedOut early = refl

not_due : (clock : Ms) (deadline : ℕ) (state : State) → clock.0 < connection_due deadline state → state_is_due clock state ≡ false
not_due clock deadline (Established production) early = not_yet clock.0 production.due.0 (omega arith)
not_due clock deadline TimedOut early = refl

pub quiet_before : (rows : List Row) → IsQuietBefore (connections_due rows) rows
quiet_before [] clock early = (refl, refl)
quiet_before (row ∷ rows) clock early =
    let rest = quiet_before rows clock (omega arith) in
    let here : clock.0 < connection_due row.deadline.0 row.state = omega arith in
    (rw (unexpired clock row.deadline.0 row.state here) rest.0, rw (not_due clock row.deadline.0 row.state here) rest.1)
