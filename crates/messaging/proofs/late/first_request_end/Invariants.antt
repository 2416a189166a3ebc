use Rattle.messaging.specs.Times.{request_end}
use Rattle.messaging.proofs.Deadlines.{IsFirst}
use Rattle.messaging.proofs.late.first_request_end.Given as goal

abbrev pub invariant-loop-request : goal.invariant-loop-request
invariant-loop-request l = IsFirst request_end l.first l.request-index l.waiting
