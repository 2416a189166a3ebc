use Rattle.messaging.specs.Times.{class3_end}
use Rattle.messaging.proofs.Deadlines.{IsFirst}
use Rattle.messaging.proofs.late.first_class3_end.Given as goal

abbrev pub invariant-loop-class3 : goal.invariant-loop-class3
invariant-loop-class3 l = IsFirst class3_end l.first l.class3-index l.class3_connections
