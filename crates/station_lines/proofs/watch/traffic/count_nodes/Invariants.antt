use Rattle.cip_types.specs.Indices.{Mapped}
use Rattle.station_lines.specs.Watch.Traffic.{sent_one}
use Rattle.station_lines.proofs.watch.traffic.count_nodes.Given as goal

abbrev pub invariant-loop-connection : goal.invariant-loop-connection
invariant-loop-connection l = Mapped (sent_one l.nodes l.id) l.initial.connections l.connections l.connection-index
