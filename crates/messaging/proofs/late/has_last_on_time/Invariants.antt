use Rattle.std.proofs.Common.{◌≡◌, drop}
use Rattle.std.specs.List.{list_any}
use Rattle.messaging.specs.Class3Connections.{is_last_message}
use Rattle.messaging.specs.Times.{on_time}
use Rattle.messaging.proofs.late.has_last_on_time.Given as goal

abbrev pub invariant-loop-class3 : goal.invariant-loop-class3
invariant-loop-class3 l =
    list_any (is_last_message l.id l.count) (on_time l.clock (drop l.class3-index l.class3_connections))
    ≡ list_any (is_last_message l.id l.count) (on_time l.clock l.class3_connections)
