use Rattle.std.proofs.Common.{◌≡◌, ◌++◌, filter, map, drop}
use Rattle.messaging.specs.Endings.{ending_of}
use Rattle.messaging.specs.Times.{is_late_class3}
use Rattle.messaging.proofs.late.endings.Given as goal

abbrev pub invariant-loop-class3 : goal.invariant-loop-class3
invariant-loop-class3 l =
    l.endings.items ++ map ending_of (filter (is_late_class3 l.clock) (drop l.class3-index l.class3_connections))
    ≡ map ending_of (filter (is_late_class3 l.clock) l.class3_connections)
