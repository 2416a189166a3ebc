use Rattle.std.proofs.Common.{◌↔◌, drop}
use Rattle.cip_tables.specs.Step.{opening_table}
use Rattle.device_lock.specs.Histories.{Follow}
use Rattle.device_lock.proofs.history.History.follow.Given as goal

-- what is left follows on the device's table just where all of it follows on a fresh one
abbrev pub invariant-loop-segment : goal.invariant-loop-segment
invariant-loop-segment g l = Follow (g.D.Device.table l.device) (drop l.segment-index l.segments) ↔ Follow (opening_table l.fn.config) l.segments
