use Rattle.std.proofs.Common.{sym, ap, ◌∙◌, refl, None, is_some, length-set}
use Rattle.std.specs.FinMap.{get, contains_key, remove}
use Rattle.timer_wheel.specs.Timers.{Timers}
use Rattle.timer_wheel.specs.Layout.{armed_of}
use Rattle.timer_wheel.specs.Laws.MapLemmas.{remove_absent, armed_of-clear, get-remove_same}
use Rattle.timer_wheel.proofs.WheelLemmas.{IsSound-disarm, same_timers, token_timer, token_armed, token_absent, len-clear}
use Rattle.timer_wheel.proofs.Wheel.disarm.Goals as goal

pub returns-in_default-clause-armed : goal.returns-in_default-clause-armed
returns-in_default-clause-armed c =
    let absent = rw c.deref.ensures.value at c.in_default.ensures.absent in
    sym (ap (λ (w : Timers). contains_key w.armed c.args.token.0) (sym c.self.view_is) ∙ ap is_some (token_absent c.self.inside.timers.items c.args.token.0 absent))

pub returns-in_default-clause-disarmed : goal.returns-in_default-clause-disarmed
returns-in_default-clause-disarmed c =
    let absent = rw c.deref.ensures.value at c.in_default.ensures.absent in
    same_timers _ _ refl refl
    (remove_absent _ _ (ap (λ (w : Timers). get w.armed c.args.token.0) (sym c.self.view_is) ∙ token_absent c.self.inside.timers.items c.args.token.0 absent))

pub invariant_of-self : goal.invariant_of-self
invariant_of-self c =
    let has = rw c.deref.ensures.value at c.in-Some.ensures.found in
    let found = token_timer c.self.inside.timers.items c.args.token.0 c.in-Some.key has in
    IsSound-disarm _ _ _ _ _ _ _ _ _ c.self.invariant found.1 c.put.ensures.moves

pub returns-clause-armed : goal.returns-clause-armed
returns-clause-armed c =
    let has = rw c.deref.ensures.value at c.in-Some.ensures.found in
    sym (ap (λ (w : Timers). contains_key w.armed c.args.token.0) (sym c.self.view_is)
    ∙ token_armed c.self.inside.timers.items c.args.token.0 c.in-Some.key c.self.invariant.laid_out.unique has)

pub returns-clause-disarmed : goal.returns-clause-disarmed
returns-clause-disarmed c =
    let has = rw c.deref.ensures.value at c.in-Some.ensures.found in
    let timers = c.self.inside.timers.items in
    let found = token_timer timers c.args.token.0 c.in-Some.key has in
    let view = c.self.view_is in
    same_timers _ _ (ap (λ (w : Timers). w.time) view) (length-set timers c.in-Some.key None ∙ ap (λ (w : Timers). w.capacity) view)
    (armed_of-clear timers c.in-Some.key found.0 c.self.invariant.laid_out.unique found.1
    ∙ ap (remove (armed_of timers)) found.2
    ∙ ap (λ (w : Timers). remove w.armed c.args.token.0) view)

pub returns-in_default-clause-not_armed : goal.returns-in_default-clause-not_armed
returns-in_default-clause-not_armed c =
    ap (λ (w : Timers). get w.armed c.args.token.0) (returns-in_default-clause-disarmed c) ∙ get-remove_same c.args.self.now.armed c.args.token.0 c.args.token.0 refl

pub returns-clause-not_armed : goal.returns-clause-not_armed
returns-clause-not_armed c =
    ap (λ (w : Timers). get w.armed c.args.token.0) (returns-clause-disarmed c) ∙ get-remove_same c.args.self.now.armed c.args.token.0 c.args.token.0 refl

pub returns-clause-not_full : goal.returns-clause-not_full
returns-clause-not_full c was =
    let has = rw c.deref.ensures.value at c.in-Some.ensures.found in
    let found = token_timer c.self.inside.timers.items c.args.token.0 c.in-Some.key has in
    len-clear c.self.inside.timers.items c.in-Some.key found.0 c.self.invariant.laid_out.unique found.1
