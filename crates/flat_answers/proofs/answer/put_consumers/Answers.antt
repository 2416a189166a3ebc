use Rattle.std.proofs.Common.{arith, refl}
use Rattle.flat_answers.specs.Flat.{consumer_item}
use Rattle.flat_answers.proofs.Pieces.{fits, more}
use Rattle.flat_answers.proofs.answer.put_consumers.Goals as goal

pub put_consumer-end-requires : goal.put_consumer-end-requires
put_consumer-end-requires c = fits consumer_item c.args.nodes.now c.loop-node.node-index _ _ c.args.at c.loop-node.end c.args.out.now c.loop-node.out (omega arith) refl c.requires c.loop-node.invariant

pub loop-node-preserved : goal.loop-node-preserved
loop-node-preserved c = more consumer_item c.args.nodes.now c.loop-node.node-index _ _ c.args.at c.loop-node.end _ c.args.out.now c.loop-node.out _ (omega arith) refl c.loop-node.invariant c.put_consumer-end.ensures
