use Rattle.std.proofs.Common.{◌≤◌}
use Rattle.scanner_slots.proofs.Turns.{IsCounted}
use Rattle.scanner_slots.proofs.due.openings_at.Given as goal

abbrev pub invariant-loop-index : goal.invariant-loop-index
invariant-loop-index l = record {
  so_far : IsCounted l.count l.target l.configs l.slots l.index;
  within : l.count ≤ l.index;
}
