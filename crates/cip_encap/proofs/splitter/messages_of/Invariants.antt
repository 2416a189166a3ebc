use Rattle.std.proofs.Common.{length}
use Rattle.cip_encap.proofs.StreamLaws.{IsWalk}
use Rattle.cip_encap.proofs.splitter.messages_of.Given as goal

abbrev pub invariant-loop-text : goal.invariant-loop-text
invariant-loop-text l = IsWalk l.stream l.messages.items l.rest

abbrev pub decreases-loop-text : goal.decreases-loop-text
decreases-loop-text l = length l.rest
