use Rattle.std.proofs.lemmas.Result.{err_from_is_err_and}
use Rattle.udp_runner.proofs.Driven.{drove_kept, drove_no_receive}
use Rattle.udp_runner.proofs.TakenInTime.{drove_waiting}
use Rattle.udp_runner.proofs.in_time.take_datagram.Goals as goal

pub returns-in_err-came-clause-run : goal.returns-in_err-came-clause-run
returns-in_err-came-clause-run g c =
    let p = err_from_is_err_and c.from_residual.result c.from_residual.ensures.1 in
    rw (p.1, p.2) (drove_no_receive (g.O.Observer.notes) _ _ _ _ _ _ _ _ _ _ _ _ c.in_err-came.ensures.kept c.in_err-came.ensures.counted)

pub returns-in-None-clause-run : goal.returns-in-None-clause-run
returns-in-None-clause-run g c = drove_kept (g.O.Observer.notes) _ _ _ _ _ _ _ _ _ c.in_ok-came.ensures.kept c.in_ok-came.ensures.worked

pub returns-in-Some-clause-run : goal.returns-in-Some-clause-run
returns-in-Some-clause-run g c =
    drove_waiting (g.O.Observer.notes) _ _ _ _ _ _ _ _ _ _ _ _ _ c.in_ok-came.ensures.kept c.in_ok-came.ensures.worked c.in_ok-came.ensures.none c.in-Some.is
    c.give_in_time.ensures.run
