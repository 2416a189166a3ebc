use Rattle.std.proofs.Common.{◌≡◌, ◌≤◌, ◌↔◌, IsTrue, subst}
use Rattle.std.specs.FinMap.{len}
use Rattle.timer_wheel.specs.Timers.{Timers}
use Rattle.timer_wheel.proofs.WheelLemmas.{len-bound, full_by_front}
use Rattle.timer_wheel.proofs.Wheel.is_full.Goals as goal

pub returns-clause-bound : goal.returns-clause-bound
returns-clause-bound c =
    subst (λ (w : Timers). len w.armed ≤ w.capacity) c.self.view_is (len-bound c.self.inside.timers.items c.self.invariant.laid_out.unique)

pub returns-clause-full : goal.returns-clause-full
returns-clause-full c =
    subst (λ (w : Timers). IsTrue c.is_none.result ↔ (len w.armed ≡ w.capacity)) c.self.view_is
    (full_by_front c.self.inside.clock c.self.inside.slots c.self.inside.timers.items c.front.result c.is_none.result c.is_none.ensures c.self.invariant.laid_out c.front.ensures.empty c.front.ensures.member)
