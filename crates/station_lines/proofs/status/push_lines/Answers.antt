use Rattle.cip_tables.specs.States.{totals_of}
use Rattle.station_lines.specs.Status.{connection_lines, points_status, totals_line}
use Rattle.station_lines.specs.Attributes.Lemmas.Appended.{three}
use Rattle.station_lines.proofs.status.push_lines.Goals as goal

pub returns : goal.returns
returns g c = three _ _ _ _ (totals_line c.args.at (totals_of (g.D.Device.table c.args.device.now)) c.args.totals) (connection_lines c.args.at (g.D.Device.table c.args.device.now) c.args.connections.now) (points_status c.args.at (g.D.Device.table c.args.device.now) c.args.connections.now c.args.points.now) c.in_ok-push_totals.ensures c.in_ok-push_connections.ensures c.in_ok-push_points.ensures
