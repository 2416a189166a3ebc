-- For how long an adapter needs no tick.
use Rattle.std.proofs.Common.{◌≡◌, ◌≤◌, ℕ, ◌+◌, ◌-◌, false, Ok, min, ap, ◌∙◌, arith}
use Rattle.std.specs.Prelude.{nat_lt}
use Rattle.std.proofs.lemmas.Bool.Decides.{nat_tests}
use Rattle.cip_events.specs.Clock.{longest_tick, clock_end}
use Rattle.messaging.specs.Times.{first_moment}
use Rattle.messaging.specs.Lemmas.IdleLemmas.{early_is_idle, idle_is_calm}
use Rattle.adapter_table.specs.declared.table.AdapterTable.{AdapterTable}
use Rattle.adapter_table.specs.Requests.{Next}
use Rattle.adapter_table.specs.Ticks.{clocked_table, tick}
use Rattle.adapter_table.specs.Whole.{IsWhole}
use Rattle.cip_tables.specs.declared.table.DeviceTable.TheVariants.{Adapter}
use Rattle.cip_tables.specs.Step.{step, as_adapter}
use Rattle.cip_tables.specs.Wakes.{IsQuietFor}
use Rattle.indexed_connections.specs.List.Quiet.{IsQuietBefore}
use Rattle.adapter.proofs.Aging.{idle_next}
use Rattle.adapter.proofs.EngineEffects.{waits}

within : (n most : ℕ) → n ≤ most → nat_lt most n ≡ false
within n most le = grind (arith, nat_tests)

-- until its connections change, and no deadline of a class 3 connection or of a request to the application comes
pub quiet_for : (t : AdapterTable) (bound wait : ℕ) → IsQuietBefore bound t.rows → wait ≤ min bound (first_moment t.messaging) - t.clock.0 → IsWhole t → IsQuietFor (Adapter t) wait
unfolding step tick clocked_table
quiet_for t bound wait quiet le whole ms early longest inside =
    let none = quiet (record { 0 = t.clock.0 + ms }) (omega (arith, le, early)) in
    let idle = early_is_idle (record { 0 = t.clock.0 + ms }) t.messaging (omega (arith, le, early)) in
    let calm = idle_is_calm (record { 0 = t.clock.0 + ms }) t.messaging whole.messages.own.answerable idle in
    rw (within ms longest_tick longest, within (t.clock.0 + ms) clock_end inside) (ap (λ (n : Next). as_adapter (Ok n)) (idle_next t ms whole idle ∙ waits t ms none.0 calm.class3_connections none.1 whole.sound.listeners_are_supported))
