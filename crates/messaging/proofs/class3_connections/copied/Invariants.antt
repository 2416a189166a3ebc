use Rattle.std.proofs.Common.{◌≡◌, take}
use Rattle.messaging.proofs.class3_connections.copied.Given as goal

abbrev pub invariant-loop-class3 : goal.invariant-loop-class3
invariant-loop-class3 l = l.copy.items ≡ take l.class3-index l.class3_connections
