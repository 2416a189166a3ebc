use Rattle.cip_types.specs.Indices.{Mapped}
use Rattle.station_lines.specs.Watch.Traffic.{counted_one}
use Rattle.station_lines.proofs.watch.traffic.count_each.Given as goal

abbrev pub invariant-loop-connection : goal.invariant-loop-connection
invariant-loop-connection l = Mapped (counted_one l.datagram) l.initial.connections l.connections l.connection-index
