use Rattle.std.proofs.Common.{◌≡◌, ◌∙◌, ap, arith}
use Rattle.script_checks.specs.Holding.{has_lost, lost_below}
use Rattle.script_checks.proofs.holding.is_lost.Goals as goal

pub returns : goal.returns
unfolding has_lost
returns g c =
    let all : c.loop-place.place ≡ 64 = omega arith in
    c.loop-place.invariant ∙ ap (λ n. lost_below (g.D.Device.table c.args.device.now) c.args.point n) all
