use Rattle.scanner_table.specs.Productions.{produced_slot}
use Rattle.scanner_data.proofs.Changes.{Mapped}
use Rattle.scanner_data.proofs.productions.produce_slots.Given as goal

abbrev pub invariant-loop-slot : goal.invariant-loop-slot
invariant-loop-slot l = Mapped (produced_slot l.clock) l.initial.slots l.slots l.slot-index
