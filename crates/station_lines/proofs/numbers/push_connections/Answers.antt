use Rattle.std.proofs.Common.{◌≡◌, ◌++◌, ◌∙◌, ap, arith, string_bytes}
use Rattle.station_lines.specs.Numbers.{connections_numbers, numbers_to}
use Rattle.station_lines.proofs.numbers.push_connections.Goals as goal

pub returns : goal.returns
unfolding connections_numbers
returns g c =
    let all : c.loop-place.place ≡ 64 = omega arith in
    c.loop-place.invariant ∙ ap (λ n. string_bytes c.args.out.now ++ numbers_to c.args.at (g.D.Device.table c.args.device.now) c.args.connections.now n) all
