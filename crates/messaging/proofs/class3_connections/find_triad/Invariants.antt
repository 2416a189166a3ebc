use Rattle.std.proofs.Common.{◌≡◌, drop, find}
use Rattle.messaging.specs.Class3Connections.{has_class3_triad}
use Rattle.messaging.proofs.class3_connections.find_triad.Given as goal

abbrev pub invariant-loop-class3 : goal.invariant-loop-class3
invariant-loop-class3 l = find (has_class3_triad l.triad) (drop l.class3-index l.class3_connections) ≡ find (has_class3_triad l.triad) l.class3_connections
