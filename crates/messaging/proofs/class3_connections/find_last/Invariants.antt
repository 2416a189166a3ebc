use Rattle.std.proofs.Common.{◌≡◌, drop, find}
use Rattle.messaging.specs.Class3Connections.{is_last_message}
use Rattle.messaging.proofs.class3_connections.find_last.Given as goal

abbrev pub invariant-loop-class3 : goal.invariant-loop-class3
invariant-loop-class3 l = find (is_last_message l.id l.count) (drop l.class3-index l.class3_connections) ≡ find (is_last_message l.id l.count) l.class3_connections
