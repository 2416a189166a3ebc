use Rattle.std.proofs.lemmas.Result.{err_from_is_err_and}
use Rattle.udp_runner.proofs.TakenInTime.{drove_ended_at_tick, drove_ended_first, drove_turn_in_time}
use Rattle.udp_runner.proofs.in_time.take_turn.Goals as goal

pub returns-in_err-taken-clause-run : goal.returns-in_err-taken-clause-run
returns-in_err-taken-clause-run g c =
    let p = err_from_is_err_and c.from_residual.result c.from_residual.ensures.1 in
    rw (p.1, p.2) (drove_ended_first (g.O.Observer.notes) _ _ (g.C.Clock.coming c.args.clock.now) _ _ _ c.in_err-taken.ensures.run)

pub returns-in_err-ticked-clause-run : goal.returns-in_err-ticked-clause-run
returns-in_err-ticked-clause-run g c =
    let p = err_from_is_err_and c.from_residual-in_err-ticked.result c.from_residual-in_err-ticked.ensures.1 in
    rw (p.1, p.2) (drove_ended_at_tick (g.O.Observer.notes) _ _ _ (g.C.Clock.coming c.args.clock.now) _ _ _ _ _ _ c.in_ok-taken.ensures.times_ms c.passed-ms.ensures.answer c.in_ok-taken.ensures.run c.in_err-ticked.ensures)

pub returns-in_err-received-clause-run : goal.returns-in_err-received-clause-run
returns-in_err-received-clause-run g c =
    let p = err_from_is_err_and c.from_residual-in_err-received.result c.from_residual-in_err-received.ensures.1 in
    rw (p.1, p.2) (drove_turn_in_time (g.O.Observer.notes) _ _ _ (g.C.Clock.coming c.args.clock.now) _ _ _ _ _ _ _ _ c.in_ok-taken.ensures.times_ms c.passed-ms.ensures.answer c.in_ok-taken.ensures.run c.in_ok-ticked.ensures c.in_err-received.ensures.run)

pub returns-clause-run : goal.returns-clause-run
returns-clause-run g c = drove_turn_in_time (g.O.Observer.notes) _ _ _ (g.C.Clock.coming c.args.clock.now) _ _ _ _ _ _ _ _ c.in_ok-taken.ensures.times_ms c.passed-ms.ensures.answer c.in_ok-taken.ensures.run c.in_ok-ticked.ensures c.in_ok-received.ensures.run
