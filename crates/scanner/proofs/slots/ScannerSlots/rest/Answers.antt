use Rattle.std.proofs.Common.{◌+◌}
use Rattle.cip_types.specs.declared.names.Ms.{Ms}
use Rattle.scanner_slots.specs.Bounding.{at_time}
use Rattle.scanner.specs.Tables.{table_in}
use Rattle.scanner.proofs.Ticking.{rested}
use Rattle.scanner.proofs.slots.ScannerSlots.rest.Goals as goal

pub returns-clause-step : goal.returns-clause-step
returns-clause-step c =
    let t = table_in c.args.self.now in
    let clock : Ms = record { 0 = t.clock.0 + c.args.ms } in
    let timed = c.hints_are_times.ensures c.args.bounds t c.requires.hints in
    rw (c.from.ensures, c.plain.ensures) (rested t clock
    (c.explicit_requests_rest.ensures (at_time t clock) (c.connections_rest_before_bounds.ensures c.args.bounds t clock timed c.requires.ends c.requires.retries) c.requires.explicit)
    (c.producers_rest_before_bounds.ensures.sent c.args.bounds t clock timed c.requires.dues)
    (c.producers_rest_before_bounds.ensures.table c.args.bounds t clock c.requires.whole timed c.requires.dues))

pub returns-clause-hints : goal.returns-clause-hints
returns-clause-hints c = record { slots = c.requires.hints.slots }
