use Rattle.std.proofs.Common.{◌≡◌, ◌++◌, ◌∙◌, ap, arith, string_bytes}
use Rattle.station_lines.specs.Status.{connection_lines, lines_to}
use Rattle.station_lines.proofs.status.push_connections.Goals as goal

pub returns : goal.returns
unfolding connection_lines
returns g c =
    let all : c.loop-place.place ≡ 64 = omega arith in
    c.loop-place.invariant ∙ ap (λ n. string_bytes c.args.out.now ++ lines_to c.args.at (g.D.Device.table c.args.device.now) c.args.connections.now n) all
