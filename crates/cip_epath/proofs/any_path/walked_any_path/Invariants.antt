use Rattle.std.proofs.Common.{length}
use Rattle.cip_epath.specs.AnyBuilder.{view_any_builder}
use Rattle.cip_epath.proofs.AnyWalk.{IsAnyWalk}
use Rattle.cip_epath.proofs.any_path.walked_any_path.Given as goal

abbrev pub invariant-loop-rest : goal.invariant-loop-rest
invariant-loop-rest l = IsAnyWalk l.fn.bytes l.rest l.inhibits (view_any_builder l.builder)

abbrev pub decreases-loop-rest : goal.decreases-loop-rest
decreases-loop-rest l = length l.rest
