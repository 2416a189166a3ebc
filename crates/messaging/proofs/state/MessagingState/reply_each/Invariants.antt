use Rattle.std.proofs.Common.{◌≡◌, drop}
use Rattle.messaging.specs.Times.{late_replies}
use Rattle.messaging.proofs.state.MessagingState.reply_each.Given as goal

abbrev pub invariant-loop-request : goal.invariant-loop-request
invariant-loop-request l = late_replies (drop l.request-index l.late) l.self ≡ late_replies l.late l.initial.self
