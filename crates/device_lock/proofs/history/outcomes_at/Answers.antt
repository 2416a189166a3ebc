use Rattle.device_lock.proofs.Replays.{outcomes_drop}
use Rattle.device_lock.proofs.history.outcomes_at.Goals as goal
use Rattle.std.proofs.Common.{◌∙◌}

pub loop-event-preserved : goal.loop-event-preserved
loop-event-preserved g c =
    outcomes_drop _ _ _ _ _ _ _ _ c.loop-event-test.true c.event-item.is c.in_ok-outcome.ensures.outcome c.in_ok-outcome.ensures.table c.in_ok-push.ensures.items ∙ c.loop-event.invariant
