use Rattle.std.proofs.Common.{arith}
use Rattle.scanner_table.specs.Productions.{produced_slot}
use Rattle.scanner_data.proofs.Changes.{map_more}
use Rattle.scanner_data.proofs.productions.produce_slots.Goals as goal

pub loop-slot-preserved : goal.loop-slot-preserved
loop-slot-preserved c = map_more (produced_slot c.args.clock) c.args.slots.now c.loop-slot.slots c.loop-slot.slot-index _ _ (omega arith) (omega arith) c.loop-slot.invariant c.produce_slot.ensures
