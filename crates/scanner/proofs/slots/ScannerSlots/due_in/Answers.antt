use Rattle.std.proofs.Common.{◌+◌, ◌<◌, List, subst, arith}
use Rattle.cip_types.specs.declared.names.Ms.{Ms}
use Rattle.cip_tables.specs.Wakes.{explicit_due}
use Rattle.scanner_table.specs.declared.explicit.PendingExplicit.{PendingExplicit}
use Rattle.scanner_slots.specs.Bounding.{all_bounds, at_time}
use Rattle.scanner.specs.Tables.{table_in}
use Rattle.scanner.proofs.Ticking.{rested}
use Rattle.scanner.proofs.Waking.{tick_rests}
use Rattle.scanner.proofs.slots.ScannerSlots.due_in.Goals as goal

pub returns-clause-quiet : goal.returns-clause-quiet
returns-clause-quiet c ms early short before =
    let t = table_in c.args.self.now in
    let clock : Ms = record { 0 = t.clock.0 + ms } in
    let bounds = all_bounds c.first_due-due.result in
    let hinted = c.first_due-due.ensures.timed in
    let lasts : clock.0 < c.first_due-due.result.0 = omega arith in
    let awaits : clock.0 < explicit_due c.deref.result.now = omega (arith, c.first_deadline-late.ensures) in
    let none = c.later_deadlines_end_nothing.ensures (at_time t clock) (subst (λ (l : List PendingExplicit). clock.0 < explicit_due l) c.deref.ensures.value awaits) in
    tick_rests t ms short before (rested t clock
    (c.explicit_requests_rest.ensures (at_time t clock) (c.connections_rest_before_bounds.ensures bounds t clock hinted lasts lasts) none)
    (c.producers_rest_before_bounds.ensures.sent bounds t clock hinted lasts)
    (c.producers_rest_before_bounds.ensures.table bounds t clock c.requires hinted lasts))
