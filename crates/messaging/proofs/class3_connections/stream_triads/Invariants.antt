use Rattle.std.proofs.Common.{◌≡◌, ◌++◌, filter, map, drop}
use Rattle.messaging.specs.Class3Connections.{class3_triad, is_on_stream}
use Rattle.messaging.proofs.class3_connections.stream_triads.Given as goal

abbrev pub invariant-loop-class3 : goal.invariant-loop-class3
invariant-loop-class3 l =
    l.triads.items ++ map class3_triad (filter (is_on_stream l.stream) (drop l.class3-index l.class3_connections))
    ≡ map class3_triad (filter (is_on_stream l.stream) l.class3_connections)
