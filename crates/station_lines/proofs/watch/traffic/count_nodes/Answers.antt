use Rattle.std.proofs.Common.{arith}
use Rattle.cip_types.specs.Indices.{map_more}
use Rattle.station_lines.specs.Watch.Traffic.{sent_one}
use Rattle.station_lines.proofs.watch.traffic.count_nodes.Goals as goal

pub loop-connection-preserved : goal.loop-connection-preserved
loop-connection-preserved c = map_more (sent_one c.args.nodes.now c.args.id) c.args.connections.now c.loop-connection.connections c.loop-connection.connection-index _ _ (omega arith) (omega arith) c.loop-connection.invariant c.sent_one.ensures
