use Rattle.std.proofs.Common.{◌≡◌, drop, find}
use Rattle.messaging.specs.Class3Connections.{is_class3}
use Rattle.messaging.proofs.class3_connections.find_class3.Given as goal

abbrev pub invariant-loop-class3 : goal.invariant-loop-class3
invariant-loop-class3 l = find (is_class3 l.stream l.id) (drop l.class3-index l.class3_connections) ≡ find (is_class3 l.stream l.id) l.class3_connections
