use Rattle.line_threads.proofs.Adding.{adds_arrival}
use Rattle.line_threads.proofs.worker.take_arrivals.Goals as goal

pub loop-preserved : goal.loop-preserved
loop-preserved g c = rw c.in_ok-push.ensures.items (adds_arrival _ _ _ _ _ _ c.loop.invariant c.in_ok-step.ensures c.into_event-event.ensures)
