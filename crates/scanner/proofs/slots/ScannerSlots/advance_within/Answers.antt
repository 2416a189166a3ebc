use Rattle.std.proofs.Common.{sym, ◌∙◌}
use Rattle.scanner_slots.specs.Bounding.{at_time}
use Rattle.scanner.specs.Tables.{table_in}
use Rattle.scanner.proofs.slots.ScannerSlots.advance_within.Goals as goal

pub pass-requires-clause-quiet : goal.pass-requires-clause-quiet
pass-requires-clause-quiet c =
    let before = c.allow_changes.ensures.none c.if-allow_changes.false in
    c.explicit_requests_rest.ensures (at_time (table_in c.args.self.now) _) (c.connections_rest_before_bounds.ensures c.present_bounds.result (table_in c.args.self.now) _ (c.hints_are_times.ensures c.present_bounds.result (table_in c.args.self.now) c.present_bounds.ensures) before.0 before.1) (sym c.is_explicit_late.ensures ∙ c.if-is_explicit_late.false)
