use Rattle.std.proofs.Common.{◌≡◌, length, arith, ap, ◌∙◌, length-set}
use Rattle.std.specs.FinMap.{len, get, insert}
use Rattle.timer_wheel.specs.Timers.{Timers}
use Rattle.timer_wheel.specs.Layout.{armed_of}
use Rattle.timer_wheel.specs.Laws.LevelLemmas.{slot_of-bound}
use Rattle.timer_wheel.proofs.WheelLemmas.{some_free, IsSound-arm, armed_of-arm, same_timers}
use Rattle.timer_wheel.proofs.Wheel.arm.Goals as goal

pub unwrap-key-requires : goal.unwrap-key-requires
unwrap-key-requires c =
    let inside = c.self.inside in
    let count : len (armed_of inside.timers.items) ≡ len c.args.self.now.armed = ap (λ (w : Timers). len w.armed) c.self.view_is in
    let room : length inside.timers.items ≡ c.args.self.now.capacity = ap (λ (w : Timers). w.capacity) c.self.view_is in
    some_free _ _ _ _ c.self.invariant.laid_out (omega (arith, c.requires.not_full)) c.front.ensures.empty

pub put-requires-clause-list_in : goal.put-requires-clause-list_in
put-requires-clause-list_in c = omega (arith, c.slot_of.ensures, slot_of-bound c.args.deadline c.self.inside.clock)

pub invariant_of-self : goal.invariant_of-self
invariant_of-self c =
    let clock : c.self.inside.clock ≡ c.args.self.now.time = ap (λ (w : Timers). w.time) c.self.view_is in
    let owned = rw c.unwrap-key.ensures at c.front.ensures.member in
    IsSound-arm _ _ _ _ _ _ _ _ _ _ c.self.invariant owned c.put.ensures.moves
    (record { ahead = omega (arith, c.requires.not_past); in_reach = omega (arith, c.requires.in_reach); slot = c.slot_of.ensures })
    (ap (λ (w : Timers). get w.armed c.args.token.0) c.self.view_is ∙ c.requires.not_armed)

pub returns : goal.returns
returns c =
    let owned = rw c.unwrap-key.ensures at c.front.ensures.member in
    let view = c.self.view_is in
    same_timers _ _ (ap (λ (w : Timers). w.time) view) (length-set _ _ _ ∙ ap (λ (w : Timers). w.capacity) view)
    (armed_of-arm _ _ _ _ _ c.self.invariant.laid_out owned (ap (λ (w : Timers). get w.armed c.args.token.0) view ∙ c.requires.not_armed)
    ∙ ap (λ (w : Timers). insert w.armed c.args.token.0 c.args.deadline) view)
