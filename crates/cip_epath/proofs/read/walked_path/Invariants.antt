use Rattle.std.proofs.Common.{length}
use Rattle.cip_epath.specs.PathBuilder.{view_path_builder}
use Rattle.cip_epath.proofs.Walks.{IsPathWalk}
use Rattle.cip_epath.proofs.read.walked_path.Given as goal

abbrev pub invariant-loop-rest : goal.invariant-loop-rest
invariant-loop-rest l = IsPathWalk l.fn.bytes l.rest l.inhibits (view_path_builder l.builder)

abbrev pub decreases-loop-rest : goal.decreases-loop-rest
decreases-loop-rest l = length l.rest
