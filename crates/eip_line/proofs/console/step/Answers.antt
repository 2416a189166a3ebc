use Rattle.std.proofs.Common.{true}
use Rattle.std.proofs.lemmas.Result.{err_from_is_err_and}
use Rattle.eip_line.proofs.Runs.{all_begun, begun_all, difference_begun, kept, run_differs, run_same, run_stopped, stayed, stop_begun}
use Rattle.eip_line.proofs.console.step.Goals as goal

pub returns-in_err-flush-in-Ok-None : goal.returns-in_err-flush-in-Ok-None
returns-in_err-flush-in-Ok-None g c =
    let p = err_from_is_err_and c.from_residual-in_err-flush-in-Ok-None.result c.from_residual-in_err-flush-in-Ok-None.ensures.1 in
    rw (p.1, p.2) (all_begun _ _ _ _ true c.in_ok-trace.trace c.in_ok-trace.ensures (rw c.in-Ok-None.field-0-is at c.in-Ok-None.ensures) c.in_err-flush-in-Ok-None.ensures)

pub returns-in-Ok-None : goal.returns-in-Ok-None
returns-in-Ok-None g c = run_same _ _ _ _ true c.in_ok-trace.trace c.in_ok-trace.ensures (rw c.in-Ok-None.field-0-is at c.in-Ok-None.ensures) c.in_ok-flush-in-Ok-None.ensures

pub returns-in_err-write_numbered-in-Ok-Some : goal.returns-in_err-write_numbered-in-Ok-Some
returns-in_err-write_numbered-in-Ok-Some g c =
    let p = err_from_is_err_and c.from_residual-in_err-write_numbered-in-Ok-Some.result c.from_residual-in_err-write_numbered-in-Ok-Some.ensures.1 in
    rw (p.1, p.2) (difference_begun _ _ _ _ true c.in_ok-trace.trace c.in-Ok-Some.number c.in_ok-trace.ensures (rw c.in-Ok-Some.field-0-is at c.in-Ok-Some.ensures) c.in_err-write_numbered-in-Ok-Some.ensures)

pub returns-in_err-flush-in-Ok-Some : goal.returns-in_err-flush-in-Ok-Some
returns-in_err-flush-in-Ok-Some g c =
    let p = err_from_is_err_and c.from_residual-in_err-flush-in-Ok-Some.result c.from_residual-in_err-flush-in-Ok-Some.ensures.1 in
    rw (p.1, p.2) (difference_begun _ _ _ _ true c.in_ok-trace.trace c.in-Ok-Some.number c.in_ok-trace.ensures (rw c.in-Ok-Some.field-0-is at c.in-Ok-Some.ensures) (begun_all _ _ _ (kept _ _ _ _ c.in_ok-write_numbered-in-Ok-Some.ensures (stayed _ _ c.in_err-flush-in-Ok-Some.ensures))))

pub returns-in-Ok-Some : goal.returns-in-Ok-Some
returns-in-Ok-Some g c = run_differs _ _ _ _ _ true c.in_ok-trace.trace c.in-Ok-Some.number c.in_ok-trace.ensures (rw c.in-Ok-Some.field-0-is at c.in-Ok-Some.ensures) c.in_ok-write_numbered-in-Ok-Some.ensures c.in_ok-flush-in-Ok-Some.ensures

pub returns-in_err-flush-in-Err : goal.returns-in_err-flush-in-Err
returns-in_err-flush-in-Err g c =
    let p = err_from_is_err_and c.from_residual-in_err-flush-in-Err.result c.from_residual-in_err-flush-in-Err.ensures.1 in
    rw (p.1, p.2) (stop_begun _ _ _ _ true c.in_ok-trace.trace c.in-Err.fault c.in_ok-trace.ensures c.in-Err.ensures c.in_err-flush-in-Err.ensures)

pub returns : goal.returns
returns g c = rw c.from.ensures (run_stopped _ _ _ _ true c.in_ok-trace.trace c.in-Err.fault c.in_ok-trace.ensures c.in-Err.ensures c.in_ok-flush-in-Err.ensures)
