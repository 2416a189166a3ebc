use Rattle.station_lines.specs.Details.{gaps_lines, mode_line, points_details}
use Rattle.station_lines.specs.Attributes.Lemmas.Appended.{three}
use Rattle.station_lines.proofs.details.push_details_of.Goals as goal

pub returns : goal.returns
returns g c = three _ _ _ _ (mode_line c.args.at c.args.copy.now) (gaps_lines c.args.at (g.D.Device.table c.args.device.now) c.args.connections.now) (points_details c.args.at c.args.copy.now c.args.connections.now c.args.points.now) c.in_ok-push_mode.ensures c.in_ok-push_gaps_lines.ensures c.in_ok-push_points_details.ensures
