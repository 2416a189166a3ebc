use Rattle.std.proofs.lemmas.Result.{err_from_is_err_and}
use Rattle.udp_runner.proofs.Driven.{drove_tick, drove_turn}
use Rattle.udp_runner.proofs.runner.turn.Goals as goal

pub returns-in_err-ticked-clause-run : goal.returns-in_err-ticked-clause-run
returns-in_err-ticked-clause-run g c =
    let p = err_from_is_err_and c.from_residual.result c.from_residual.ensures.1 in
    rw (p.1, p.2) (drove_tick (g.O.Observer.notes) _ _ _ (g.C.Clock.coming c.args.clock.now) _ _ _ c.passed-ms.ensures.answer c.in_err-ticked.ensures)

pub returns-in_err-taken-clause-run : goal.returns-in_err-taken-clause-run
returns-in_err-taken-clause-run g c =
    let p = err_from_is_err_and c.from_residual-in_err-taken.result c.from_residual-in_err-taken.ensures.1 in
    rw (p.1, p.2) (drove_turn (g.O.Observer.notes) _ _ _ (g.C.Clock.coming c.args.clock.now) _ _ _ _ _ c.passed-ms.ensures.answer c.in_ok-ticked.ensures c.in_err-taken.ensures)

pub returns-clause-run : goal.returns-clause-run
returns-clause-run g c = drove_turn (g.O.Observer.notes) _ _ _ (g.C.Clock.coming c.args.clock.now) _ _ _ _ _ c.passed-ms.ensures.answer c.in_ok-ticked.ensures c.in_ok-taken.ensures
