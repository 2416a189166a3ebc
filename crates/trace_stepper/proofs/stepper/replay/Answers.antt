use Rattle.std.proofs.lemmas.Result.{err_from_is_err_and}
use Rattle.trace_stepper.proofs.Steps.{begun, not_moved}
use Rattle.trace_stepper.proofs.stepper.replay.Goals as goal

pub loop-outcomes-init : goal.loop-outcomes-init
loop-outcomes-init g c = begun _ _ _ _ c.new-outcomes.ensures.items c.in_ok-stepper.ensures.table c.in_ok-stepper.ensures.events

pub returns-in_err-outcome-clause-fault : goal.returns-in_err-outcome-clause-fault
returns-in_err-outcome-clause-fault g c =
    let p = err_from_is_err_and c.from_residual-in_err-outcome.result c.from_residual-in_err-outcome.ensures.1 in
    rw (p.1, p.2) (not_moved _ _ _ _ _ _ _ c.in_err-outcome.ensures c.in_ok-stepper.ensures.good c.in_ok-stepper.ensures.kind)

pub returns-in_err-push-clause-fault : goal.returns-in_err-push-clause-fault
returns-in_err-push-clause-fault g c =
    let p = err_from_is_err_and c.from_residual-in_err-push.result c.from_residual-in_err-push.ensures.1 in
    rw (p.1, p.2) (c.in_ok-stepper.ensures.good, c.in_ok-stepper.ensures.kind)
