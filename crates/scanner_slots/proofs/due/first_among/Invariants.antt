use Rattle.std.proofs.Common.{◌≤◌}
use Rattle.cip_tables.specs.Wakes.{never, can_ask}
use Rattle.scanner_slots.specs.Views.{table_of}
use Rattle.scanner_slots.proofs.FirstDue.{IsFirst}
use Rattle.scanner_slots.proofs.due.first_among.Given as goal

abbrev pub invariant-loop-index : goal.invariant-loop-index
invariant-loop-index l = record {
  so_far : IsFirst l.first (can_ask (table_of l.profile l.scanner)) l.configs l.slots l.index;
  within : l.first ≤ never;
}
