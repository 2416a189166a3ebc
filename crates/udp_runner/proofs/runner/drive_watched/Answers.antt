use Rattle.std.proofs.Common.{arith, ◌≡◌, ◌<◌, ◌∙◌, ap, drop, refl}
use Rattle.std.proofs.lemmas.List.{drop-drop}
use Rattle.std.proofs.lemmas.Result.{err_from_is_err_and}
use Rattle.udp_runner.proofs.Driven.{drove_kept, drove_more, drove_stopped}
use Rattle.udp_runner.proofs.runner.drive_watched.Goals as goal

pub loop-init : goal.loop-init
loop-init g c = record { few = omega arith; counted = refl; times_ms = λ timed. refl; drove = drove_kept (g.O.Observer.notes) _ _ _ _ _ _ _ _ _ (λ sc. refl) refl }

pub loop-preserved : goal.loop-preserved
loop-preserved g c =
    let few = c.in_ok-count.ensures.run.few in
    record {
      few = omega (arith, few);
      counted = c.in_ok-count.ensures.run.worked ∙ c.loop.invariant.counted;
      times_ms = λ timed. c.in_ok-count.ensures.times_ms timed ∙ ap (drop 1) (c.loop.invariant.times_ms timed) ∙ drop-drop 1 c.loop.counter _;
      drove = drove_more (g.O.Observer.notes) _ _ c.loop.counter _ _ _ _ _ _ _ c.loop.invariant.times_ms c.loop.invariant.drove c.in_ok-count.ensures.run;
    }

pub returns-in_err-count-clause-run : goal.returns-in_err-count-clause-run
returns-in_err-count-clause-run g c =
    let p = err_from_is_err_and c.from_residual.result c.from_residual.ensures.1 in
    let within : c.loop.counter < c.args.turns = omega arith in
    rw (p.1, p.2) (drove_stopped (g.O.Observer.notes) _ _ c.loop.counter c.args.turns _ _ _ _ _ _ _ within c.loop.invariant.times_ms c.loop.invariant.drove c.in_err-count.ensures.run)

pub returns-clause-run : goal.returns-clause-run
returns-clause-run g c =
    let all : c.loop.counter ≡ c.args.turns = omega arith in
    rw (← all) c.loop.invariant.drove

pub returns-clause-times_ms : goal.returns-clause-times_ms
returns-clause-times_ms g c = λ timed.
    let all : c.loop.counter ≡ c.args.turns = omega arith in
    c.loop.invariant.times_ms timed ∙ ap (λ k. drop k (g.C.Clock.coming c.args.clock.now)) all
