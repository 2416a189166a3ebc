use Rattle.std.proofs.Common.{◌∙◌}
use Rattle.device_lock.proofs.Replays.{replay_drop}
use Rattle.device_lock.proofs.history.replay.Goals as goal

pub loop-event-preserved : goal.loop-event-preserved
loop-event-preserved g c = replay_drop _ _ _ _ _ c.loop-event-test.true c.event-item.is c.in_ok-repeat.ensures ∙ c.loop-event.invariant
