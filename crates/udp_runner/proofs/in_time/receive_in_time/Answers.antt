use Rattle.std.proofs.Common.{arith, refl, ap, sym, ◌∙◌}
use Rattle.std.proofs.lemmas.Result.{err_from_is_err_and}
use Rattle.udp_runner.specs.Turns.{arrivals_of}
use Rattle.udp_runner.proofs.Driven.{drove_as, drove_no_receive, drove_receive}
use Rattle.udp_runner.proofs.TakenInTime.{drove_arrival}
use Rattle.udp_runner.proofs.in_time.receive_in_time.Goals as goal

pub returns-in_err-came-clause-run : goal.returns-in_err-came-clause-run
returns-in_err-came-clause-run g c =
    let p = err_from_is_err_and c.from_residual.result c.from_residual.ensures.1 in
    rw (p.1, p.2) (drove_no_receive (g.O.Observer.notes) _ _ _ _ _ _ _ _ _ _ _ _ c.in_err-came.ensures.kept c.in_err-came.ensures.counted)

pub returns-in-None-clause-run : goal.returns-in-None-clause-run
returns-in-None-clause-run g c =
    drove_as (g.O.Observer.notes) (g.P.Port.is_scripted) (g.C.Clock.is_scripted) (g.C.Clock.is_scripted) _ _ 1 1 2 2 _ _ _ (λ ti. ti) (λ sc ti. ap arrivals_of (sym c.in-None.is ∙ c.in_ok-came.ensures.given sc)) refl (omega arith)
    (drove_receive (g.O.Observer.notes) _ _ _ _ _ _ _ _ _ c.in_ok-came.ensures.taken c.in_ok-came.ensures.worked)

pub returns-in-Some-clause-run : goal.returns-in-Some-clause-run
returns-in-Some-clause-run g c =
    drove_arrival (g.O.Observer.notes) _ _ _ _ _ _ _ _ _ _ _ _ c.in_ok-came.ensures.taken c.in_ok-came.ensures.worked c.in_ok-came.ensures.given c.in-Some.is
    c.give_in_time.ensures.run
