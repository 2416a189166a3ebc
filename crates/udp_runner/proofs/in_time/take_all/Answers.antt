use Rattle.std.proofs.Common.{arith, ◌≤◌, ◌*◌, ◌+◌, ◌∙◌, refl}
use Rattle.std.proofs.lemmas.Result.{err_from_is_err_and}
use Rattle.udp_runner.proofs.Driven.{drove_kept}
use Rattle.udp_runner.proofs.TakenInTime.{drove_at_most, drove_one_more}
use Rattle.udp_runner.proofs.in_time.take_all.Goals as goal

pub loop-init : goal.loop-init
loop-init g c = record { few = omega arith; counted = refl; times_ms = λ timed. refl; drove = drove_kept (g.O.Observer.notes) _ _ _ _ _ _ _ _ _ (λ sc. refl) refl }

pub loop-preserved : goal.loop-preserved
loop-preserved g c =
    let few = c.in_ok-taken.ensures.run.few in
    let so_far = c.loop.invariant.few in
    record {
      few = omega (arith, few, so_far);
      counted = c.in_ok-taken.ensures.run.worked ∙ c.loop.invariant.counted;
      times_ms = λ timed. c.in_ok-taken.ensures.times_ms timed ∙ c.loop.invariant.times_ms timed;
      drove = drove_one_more (g.O.Observer.notes) _ _ c.loop.counter _ _ _ _ _ c.loop.invariant.drove c.in_ok-taken.ensures.run;
    }

pub returns-in_err-taken-clause-run : goal.returns-in_err-taken-clause-run
returns-in_err-taken-clause-run g c =
    let p = err_from_is_err_and c.from_residual.result c.from_residual.ensures.1 in
    let most : 2 * (c.loop.counter + 1) ≤ 128 = omega arith in
    rw (p.1, p.2) (drove_at_most (g.O.Observer.notes) _ _ _ _ _ _ _ most (drove_one_more (g.O.Observer.notes) _ _ c.loop.counter _ _ _ _ _ c.loop.invariant.drove c.in_err-taken.ensures.run))

pub returns-then-taken-eq0-clause-run : goal.returns-then-taken-eq0-clause-run
returns-then-taken-eq0-clause-run g c =
    let most : 2 * (c.loop.counter + 1) ≤ 128 = omega arith in
    drove_at_most (g.O.Observer.notes) _ _ _ _ _ _ _ most (drove_one_more (g.O.Observer.notes) _ _ c.loop.counter _ _ _ _ _ c.loop.invariant.drove c.in_ok-taken.ensures.run)

pub returns-then-taken-eq0-clause-times_ms : goal.returns-then-taken-eq0-clause-times_ms
returns-then-taken-eq0-clause-times_ms g c = λ timed. c.in_ok-taken.ensures.times_ms timed ∙ c.loop.invariant.times_ms timed

pub returns-clause-run : goal.returns-clause-run
returns-clause-run g c =
    let most : 2 * c.loop.counter ≤ 128 = omega arith in
    drove_at_most (g.O.Observer.notes) _ _ _ _ _ _ _ most c.loop.invariant.drove

pub returns-clause-times_ms : goal.returns-clause-times_ms
returns-clause-times_ms g c = c.loop.invariant.times_ms
