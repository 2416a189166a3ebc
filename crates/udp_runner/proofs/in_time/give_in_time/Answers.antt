use Rattle.std.proofs.lemmas.Result.{err_from_is_err_and}
use Rattle.udp_runner.proofs.TakenInTime.{drove_given, drove_not_given}
use Rattle.udp_runner.proofs.in_time.give_in_time.Goals as goal

pub returns-in_err-ticked-clause-run : goal.returns-in_err-ticked-clause-run
returns-in_err-ticked-clause-run g c =
    let p = err_from_is_err_and c.from_residual.result c.from_residual.ensures.1 in
    rw (p.1, p.2) (drove_not_given (g.O.Observer.notes) _ _ _ _ _ _ _ c.bring_up-ms.ensures.answer c.in_err-ticked.ensures)

pub returns-in_err-act_on-clause-run : goal.returns-in_err-act_on-clause-run
returns-in_err-act_on-clause-run g c =
    let p = err_from_is_err_and c.from_residual-in_err-act_on.result c.from_residual-in_err-act_on.ensures.1 in
    rw (p.1, p.2) (drove_given (g.O.Observer.notes) _ _ _ _ _ _ _ _ _ c.bring_up-ms.ensures.answer c.in_ok-ticked.ensures c.in_err-act_on.ensures)

pub returns-clause-run : goal.returns-clause-run
returns-clause-run g c = drove_given (g.O.Observer.notes) _ _ _ _ _ _ _ _ _ c.bring_up-ms.ensures.answer c.in_ok-ticked.ensures c.in_ok-act_on.ensures
