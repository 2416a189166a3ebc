use Rattle.std.proofs.Common.{◌≡◌, ◌++◌, ◌∙◌, ap, arith, string_bytes}
use Rattle.station_lines.specs.Details.{gaps_lines, gaps_to}
use Rattle.station_lines.proofs.details.push_gaps_lines.Goals as goal

pub returns : goal.returns
unfolding gaps_lines
returns g c =
    let all : c.loop-place.place ≡ 64 = omega arith in
    c.loop-place.invariant ∙ ap (λ n. string_bytes c.args.out.now ++ gaps_to c.args.at (g.D.Device.table c.args.device.now) c.args.connections.now n) all
