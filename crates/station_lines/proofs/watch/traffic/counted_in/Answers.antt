use Rattle.std.proofs.Common.{◌≡◌, ◌∙◌, ap, arith}
use Rattle.station_lines.specs.Watch.Traffic.{counted_below, counted_in}
use Rattle.station_lines.proofs.watch.traffic.counted_in.Goals as goal

pub returns : goal.returns
unfolding counted_in
returns g c =
    let all : c.loop-place.place ≡ 64 = omega arith in
    c.loop-place.invariant ∙ ap (λ n. counted_below c.args.ms (g.D.Device.table c.args.device.now) c.args.connections.now n) all
