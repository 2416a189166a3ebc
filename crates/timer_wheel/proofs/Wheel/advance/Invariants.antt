use Rattle.std.proofs.Common.{◌≡◌, ◌++◌, map, take, vec_capacity}
use Rattle.timer_wheel.specs.declared.timer.Timer.{Timer}
use Rattle.timer_wheel.proofs.Wheel.advance.Given as goal

abbrev pub invariant-loop-timer : goal.invariant-loop-timer
invariant-loop-timer l =
    (l.out.items ≡ l.initial.out.items ++ map (λ (t : Timer). t.token) (take l.timer-index l.timer-items))
    × (vec_capacity l.out ≡ vec_capacity l.initial.out)
