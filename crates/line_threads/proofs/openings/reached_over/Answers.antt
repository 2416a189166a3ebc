use Rattle.line_threads.proofs.Reaching.{reaches_begin, reaches_more}
use Rattle.line_threads.proofs.openings.reached_over.Goals as goal

pub loop-slot-init : goal.loop-slot-init
loop-slot-init c = reaches_begin c.args.nodes.now c.args.own c.args.slots.now c.new-reached.result.items c.new-reached.ensures.items

pub loop-slot-preserved : goal.loop-slot-preserved
loop-slot-preserved c =
    reaches_more c.args.nodes.now c.args.own c.args.slots.now c.loop-slot.slot-index c.slot-item.result c.place_of.result _ _ _ c.loop-slot-test.true c.slot-item.is c.place_of.ensures c.in_ok-add_reached.ensures c.loop-slot.invariant
