use Rattle.std.proofs.Common.{◌≡◌, ◌++◌, drop}
use Rattle.cip_tables.specs.Run.{outcomes_of}
use Rattle.device_lock.proofs.history.outcomes_at.Given as goal

-- the outcomes so far, and those of what is left
abbrev pub invariant-loop-event : goal.invariant-loop-event
invariant-loop-event g l = l.outcomes.items ++ outcomes_of (g.D.Device.table l.device) (drop l.event-index l.events) ≡ outcomes_of (g.D.Device.table l.fn.device) l.events
