use Rattle.std.proofs.Common.{◌≡◌, ◌≤◌, drop}
use Rattle.scanner_data.specs.Turns.{due_in_turn}
use Rattle.scanner_data.proofs.productions.due_in_turn.Given as goal

abbrev pub invariant-loop-slot : goal.invariant-loop-slot
invariant-loop-slot l = record {
  turn : due_in_turn l.clock l.count l.last (drop l.slot-index l.slots) ≡ due_in_turn l.clock 0 0 l.slots;
  few : l.count ≤ l.slot-index;
}
