use Rattle.std.proofs.Common.{◌≡◌, drop}
use Rattle.station_lines.specs.Watch.Traffic.{after_notices}
use Rattle.station_lines.proofs.watch.traffic.note_all.Given as goal

-- the notices that are left lead from the connections so far to those after all
abbrev pub invariant-loop-notice : goal.invariant-loop-notice
invariant-loop-notice g l = after_notices l.ms (g.D.Device.table l.device) (drop l.notice-index l.notices) l.connections ≡ after_notices l.ms (g.D.Device.table l.device) l.notices l.initial.connections
