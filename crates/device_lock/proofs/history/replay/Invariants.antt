use Rattle.std.proofs.Common.{◌≡◌, drop}
use Rattle.cip_tables.specs.Run.{table_after}
use Rattle.device_lock.proofs.history.replay.Given as goal

-- what is left leads to where all of it leads to
abbrev pub invariant-loop-event : goal.invariant-loop-event
invariant-loop-event g l = table_after (g.D.Device.table l.device) (drop l.event-index l.events) ≡ table_after (g.D.Device.table l.initial.device) l.events
