use Rattle.std.proofs.Common.{◌+◌, arith}
use Rattle.messaging.specs.Times.{request_end}
use Rattle.messaging.proofs.Deadlines.{first_begins, first_more, first_done}
use Rattle.messaging.proofs.late.first_request_end.Goals as goal

pub loop-request-init : goal.loop-request-init
loop-request-init c = first_begins request_end c.args.waiting.now

pub loop-request-preserved : goal.loop-request-preserved
loop-request-preserved c = first_more request_end c.loop-request.first c.min-first.result c.loop-request.request-index c.args.waiting.now _ c.loop-request-test.true c.min-first.ensures c.loop-request.invariant (c.loop-request.request-index + 1) (omega arith)

pub returns : goal.returns
returns c = first_done request_end c.loop-request.first c.loop-request.request-index c.args.waiting.now c.loop-request-test.false c.loop-request.invariant
