use Rattle.std.proofs.Common.{◌≡◌, ◌+◌, ◌++◌, List, length, map, take, arith, ap, ◌∙◌, subst, length-append, length-take-le, take_all}
use Rattle.std.proofs.lemmas.List.{length-map, with_items_is}
use Rattle.std.specs.FinMap.{len}
use Rattle.timer_wheel.specs.declared.timer.Timer.{Timer}
use Rattle.timer_wheel.specs.Timers.{Timers, later_than, Fires}
use Rattle.timer_wheel.specs.Layout.{armed_of, timer_count}
use Rattle.timer_wheel.specs.Laws.MapLemmas.{len-armed_of}
use Rattle.timer_wheel.proofs.WheelLemmas.{same_timers, IsSound-swept}
use Rattle.timer_wheel.specs.Laws.FireLemmas.{IsSplit-swept, armed_of-later, Fires-sorted}
use Rattle.timer_wheel.proofs.Wheel.advance.Goals as goal

pub push_reserved-requires : goal.push_reserved-requires
push_reserved-requires c =
    let inside = c.self.inside in
    let armed : len (armed_of inside.timers.items) ≡ len c.args.self.now.armed = ap (λ (w : Timers). len w.armed) c.self.view_is in
    let count = len-armed_of inside.timers.items c.self.invariant.laid_out.unique in
    let read : timer_count c.deref_mut.result.now ≡ timer_count inside.timers.items = ap timer_count c.deref_mut.ensures.value in
    let none : length inside.due.items ≡ 0 = ap length c.self.invariant.nothing_due in
    let some : length c.loop-timer.out.items ≡ length c.args.out.now.items + c.loop-timer.timer-index =
    ap length c.loop-timer.invariant.0 ∙ length-append c.args.out.now.items _
    ∙ ap (λ n. length c.args.out.now.items + n) (length-map (take c.loop-timer.timer-index c.deref-timer-items.result.now) (λ (t : Timer). t.token) ∙ length-take-le c.loop-timer.timer-index c.deref-timer-items.result.now c.loop-timer.auto.timer-index-end) in
    omega (arith, armed, count, read, none, some, c.loop-timer.invariant.1, c.sweep.ensures.count, c.sort_unstable.ensures.len, c.deref-timer-items.ensures.len, c.requires.spare, c.loop-timer-test.true, c.loop-timer.out.ok, c.args.out.now.ok, inside.due.ok)

pub invariant_of-self : goal.invariant_of-self
invariant_of-self c =
    let inside = c.self.inside in
    let clock : inside.clock ≡ c.args.self.now.time = ap (λ (w : Timers). w.time) c.self.view_is in
    let size = c.sweep.auto.timers in
    let whole = with_items_is inside.timers c.sweep.new.timers (omega (arith, size, ap length c.deref_mut.ensures.value, inside.timers.ok)) in
    IsSound-swept _ _ _ _ _ c.deref_mut.result.now _ _ _ _ _ _ _ c.self.invariant c.sweep.ensures.laid_out c.sweep.ensures.cleared size c.deref_mut.ensures.value whole
    (omega (arith, clock, c.from.ensures, c.requires.end)) c.clear.ensures.items (c.clear.ensures.capacity ∙ c.sort_unstable.ensures.capacity ∙ c.sweep.ensures.capacity)

pub returns-clause-clock : goal.returns-clause-clock
returns-clause-clock c =
    let inside = c.self.inside in
    let view = c.self.view_is in
    let now = inside.clock + c.from.result in
    let clock : now ≡ c.args.self.now.time + c.args.delta = omega (arith, ap (λ (w : Timers). w.time) view, c.from.ensures) in
    let split = IsSplit-swept now inside.timers.items c.deref_mut.result.now c.sweep.new.timers inside.due.items c.sweep.new.due.items c.sweep.ensures.taken c.self.invariant.nothing_due c.deref_mut.ensures.value in
    let left = armed_of-later inside.clock now c.sweep.new.slots c.sweep.new.timers (armed_of inside.timers.items) c.sweep.new.due.items c.sweep.ensures.none_due split in
    let size = c.sweep.auto.timers ∙ ap length c.deref_mut.ensures.value in
    let whole = with_items_is inside.timers c.sweep.new.timers (omega (arith, size, inside.timers.ok)) in
    same_timers _ _ clock (ap length whole ∙ size ∙ ap (λ (w : Timers). w.capacity) view)
    (ap armed_of whole ∙ left ∙ ap (λ n. later_than n (armed_of inside.timers.items)) clock ∙ ap (λ (w : Timers). later_than (c.args.self.now.time + c.args.delta) w.armed) view)

pub returns-clause-fired : goal.returns-clause-fired
returns-clause-fired c =
    let inside = c.self.inside in
    let view = c.self.view_is in
    let now = inside.clock + c.from.result in
    let clock : now ≡ c.args.self.now.time + c.args.delta = omega (arith, ap (λ (w : Timers). w.time) view, c.from.ensures) in
    let split = IsSplit-swept now inside.timers.items c.deref_mut.result.now c.sweep.new.timers inside.due.items c.sweep.new.due.items c.sweep.ensures.taken c.self.invariant.nothing_due c.deref_mut.ensures.value in
    let sorted = c.sort_unstable.new.self.items in
    let all : take c.loop-timer.timer-index c.deref-timer-items.result.now ≡ sorted = take_all c.loop-timer.timer-index c.deref-timer-items.result.now c.loop-timer-test.false ∙ c.deref-timer-items.ensures.value in
    let fires = Fires-sorted inside.clock now c.sweep.new.slots c.sweep.new.timers (armed_of inside.timers.items) c.sweep.new.due.items sorted c.sweep.ensures.none_due split c.sort_unstable.ensures.permutation c.sort_unstable.ensures.sorted
    c.args.out.now.items c.loop-timer.out.items (c.loop-timer.invariant.0 ∙ ap (λ (ts : List Timer). c.args.out.now.items ++ map (λ (t : Timer). t.token) ts) all) in
    subst (λ n. Fires c.args.self.now.armed n c.args.out.now.items c.loop-timer.out.items) clock
    (subst (λ (w : Timers). Fires w.armed now c.args.out.now.items c.loop-timer.out.items) view fires)
