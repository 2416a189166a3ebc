use Rattle.std.proofs.Common.{arith}
use Rattle.cip_types.specs.Indices.{map_more}
use Rattle.station_lines.specs.Watch.Traffic.{reported}
use Rattle.station_lines.proofs.watch.traffic.report_each.Goals as goal

pub loop-connection-preserved : goal.loop-connection-preserved
loop-connection-preserved c = map_more (reported c.args.ms c.args.report.now) c.args.connections.now c.loop-connection.connections c.loop-connection.connection-index _ _ (omega arith) (omega arith) c.loop-connection.invariant c.reported.ensures
