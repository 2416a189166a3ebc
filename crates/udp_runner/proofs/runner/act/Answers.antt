use Rattle.std.proofs.Common.{refl}
use Rattle.std.proofs.lemmas.Result.{err_from_is_err_and}
use Rattle.udp_runner.proofs.Driven.{drove_one, drove_refused, drove_unsent}
use Rattle.udp_runner.proofs.runner.act.Goals as goal

pub returns-in_err-answer-clause-run : goal.returns-in_err-answer-clause-run
returns-in_err-answer-clause-run g c =
    let p = err_from_is_err_and c.from_residual.result c.from_residual.ensures.1 in
    rw (p.1, p.2) (drove_refused (g.O.Observer.notes) _ _ _ _ _ _ c.in_err-answer.ensures.step c.in_err-answer.ensures.noted refl refl)

pub returns-in_err-send-clause-run : goal.returns-in_err-send-clause-run
returns-in_err-send-clause-run g c =
    let p = err_from_is_err_and c.from_residual-in_err-send.result c.from_residual-in_err-send.ensures.1 in
    rw (p.1, p.2)
    (drove_unsent (g.O.Observer.notes) _ _ _ _ _ _ _ c.in_ok-answer.ensures.step c.in_ok-answer.ensures.noted
    c.in_err-send.ensures.some c.in_err-send.ensures.counted)

pub returns-clause-run : goal.returns-clause-run
returns-clause-run g c =
    drove_one (g.O.Observer.notes) _ _ _ _ _ _ c.in_ok-answer.ensures.step c.in_ok-answer.ensures.noted
    c.in_ok-send.ensures.sent c.in_ok-send.ensures.worked

pub returns-in_err-answer-clause-refused : goal.returns-in_err-answer-clause-refused
returns-in_err-answer-clause-refused g c =
    let p = err_from_is_err_and c.from_residual.result c.from_residual.ensures.1 in
    rw (p.1, p.2) (λ sc. refl)

pub returns-in_err-send-clause-refused : goal.returns-in_err-send-clause-refused
returns-in_err-send-clause-refused g c =
    let p = err_from_is_err_and c.from_residual-in_err-send.result c.from_residual-in_err-send.ensures.1 in
    rw (p.1, p.2) tt
