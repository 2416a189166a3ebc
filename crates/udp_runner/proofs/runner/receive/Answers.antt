use Rattle.std.proofs.Common.{arith, refl, ap, sym, ◌∙◌, true}
use Rattle.std.proofs.lemmas.Result.{err_from_is_err_and}
use Rattle.udp_runner.specs.Turns.{arrivals_of}
use Rattle.udp_runner.proofs.Driven.{drove_as, drove_no_receive, drove_receive}
use Rattle.udp_runner.proofs.runner.receive.Goals as goal

pub returns-in_err-came : goal.returns-in_err-came
returns-in_err-came g c =
    let p = err_from_is_err_and c.from_residual.result c.from_residual.ensures.1 in
    rw (p.1, p.2) (drove_no_receive (g.O.Observer.notes) _ _ _ _ _ _ _ _ _ _ _ _ c.in_err-came.ensures.kept c.in_err-came.ensures.counted)

pub returns-in-None : goal.returns-in-None
returns-in-None g c =
    drove_as (g.O.Observer.notes) (g.P.Port.is_scripted) true true _ _ 1 1 1 1 _ _ _ (λ ti. ti) (λ sc ti. ap arrivals_of (sym c.in-None.is ∙ c.in_ok-came.ensures.given sc)) refl (omega arith)
    (drove_receive (g.O.Observer.notes) _ _ _ _ _ _ _ _ _ c.in_ok-came.ensures.taken c.in_ok-came.ensures.worked)
