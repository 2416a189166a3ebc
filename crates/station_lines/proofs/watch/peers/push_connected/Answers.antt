use Rattle.std.proofs.Common.{◌≡◌, ◌∙◌, ap, arith}
use Rattle.station_lines.specs.Watch.Peers.{connected_below}
use Rattle.station_lines.proofs.watch.peers.push_connected.Goals as goal

pub returns : goal.returns
returns g c =
    let all : c.loop-place.place ≡ 64 = omega arith in
    c.loop-place.invariant ∙ ap (λ n. connected_below (g.D.Device.table c.args.device.now) c.args.peers.now.items n) all
