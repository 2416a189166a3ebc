use Rattle.timer_wheel.specs.Laws.SweepLemmas.{Emptying-take}
use Rattle.timer_wheel.proofs.sweep.empty.Goals as goal

pub loop-key-preserved-then-timer-step : goal.loop-key-preserved-then-timer-step
loop-key-preserved-then-timer-step c =
    let pushed = c.push_reserved.ensures in
    Emptying-take _ _ _ _ _ _ _ _ _ _ _ _ _ _ _ _ _ _ c.loop-key.invariant c.in-Some.ensures.member c.unwrap-timer.ensures c.if-timer-step.true c.put.ensures.moves pushed.items pushed.len pushed.capacity
