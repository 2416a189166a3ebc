use Rattle.std.proofs.Common.{◌≡◌, ◌++◌, filter, drop}
use Rattle.messaging.specs.Changes.{can_be_answered}
use Rattle.messaging.specs.Times.{is_late_request, on_time}
use Rattle.messaging.proofs.late.late_requests.Given as goal

abbrev pub invariant-loop-request : goal.invariant-loop-request
invariant-loop-request l =
    l.late.items ++ filter (is_late_request l.clock) (filter (can_be_answered (on_time l.clock l.class3_connections)) (drop l.request-index l.waiting))
    ≡ filter (is_late_request l.clock) (filter (can_be_answered (on_time l.clock l.class3_connections)) l.waiting)
