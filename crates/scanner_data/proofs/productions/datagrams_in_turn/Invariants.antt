use Rattle.std.proofs.Common.{◌≡◌, ◌++◌, drop}
use Rattle.scanner_table.specs.Slots.{indexed_from}
use Rattle.scanner_data.specs.Turns.{datagrams_in_turn}
use Rattle.scanner_data.proofs.productions.datagrams_in_turn.Given as goal

abbrev pub invariant-loop-index : goal.invariant-loop-index
invariant-loop-index l = l.due_datagrams.items ++ datagrams_in_turn l.run l.clock (indexed_from l.index (drop l.index l.configs) (drop l.index l.slots)) ≡ datagrams_in_turn l.run l.clock (indexed_from 0 l.configs l.slots)
