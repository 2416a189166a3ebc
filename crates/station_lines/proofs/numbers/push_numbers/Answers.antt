use Rattle.std.proofs.Common.{◌≡◌, ◌++◌, string_bytes, subst}
use Rattle.station_lines.specs.Numbers.{connections_numbers, numbers_head, points_numbers}
use Rattle.station_lines.specs.Attributes.Lemmas.Appended.{three}
use Rattle.station_lines.proofs.numbers.push_numbers.Goals as goal

pub returns : goal.returns
returns g c = subst
    (λ cs. string_bytes c.push_points.new.out ≡ string_bytes c.args.out.now ++ (numbers_head ++ (connections_numbers c.args.at (g.D.Device.table c.args.device.now) cs ++ points_numbers c.args.at cs c.args.points.now)))
    c.connections-connections.ensures
    (three _ _ _ _ numbers_head (connections_numbers c.args.at (g.D.Device.table c.args.device.now) c.connections-connections.result.now) (points_numbers c.args.at c.connections-connections.result.now c.args.points.now) c.in_ok-push_text.ensures c.in_ok-push_connections.ensures c.in_ok-push_points.ensures)
