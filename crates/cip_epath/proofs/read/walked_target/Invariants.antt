use Rattle.std.proofs.Common.{length}
use Rattle.cip_epath.proofs.Walks.{IsTargetWalk}
use Rattle.cip_epath.proofs.read.walked_target.Given as goal

abbrev pub invariant-loop-rest : goal.invariant-loop-rest
invariant-loop-rest l = IsTargetWalk l.fn.bytes l.rest l.builder

abbrev pub decreases-loop-rest : goal.decreases-loop-rest
decreases-loop-rest l = length l.rest
