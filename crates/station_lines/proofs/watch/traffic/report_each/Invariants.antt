use Rattle.cip_types.specs.Indices.{Mapped}
use Rattle.station_lines.specs.Watch.Traffic.{reported}
use Rattle.station_lines.proofs.watch.traffic.report_each.Given as goal

abbrev pub invariant-loop-connection : goal.invariant-loop-connection
invariant-loop-connection l = Mapped (reported l.ms l.report) l.initial.connections l.connections l.connection-index
