use Rattle.std.proofs.Common.{flat_map, take}
use Rattle.flat_answers.specs.Flat.{consumer_item}
use Rattle.flat_answers.specs.Places.{Puts}
use Rattle.flat_answers.proofs.answer.put_consumers.Given as goal

abbrev pub invariant-loop-node : goal.invariant-loop-node
invariant-loop-node l = Puts (flat_map consumer_item (take l.node-index l.nodes)) l.fn.at l.fn.out l.end l.out
