use Rattle.std.proofs.Common.{length}
use Rattle.cip_epath.specs.MessageBuilder.{view_message_builder}
use Rattle.cip_epath.proofs.AnyWalk.{IsAnyMessageWalk}
use Rattle.cip_epath.proofs.any_path.walked_any_message.Given as goal

abbrev pub invariant-loop-rest : goal.invariant-loop-rest
invariant-loop-rest l = IsAnyMessageWalk l.fn.bytes l.rest (view_message_builder l.builder)

abbrev pub decreases-loop-rest : goal.decreases-loop-rest
decreases-loop-rest l = length l.rest
