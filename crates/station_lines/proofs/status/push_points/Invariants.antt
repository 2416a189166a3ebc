use Rattle.std.proofs.Common.{◌≡◌, ◌++◌, drop, string_bytes}
use Rattle.station_lines.specs.Status.{points_status}
use Rattle.station_lines.proofs.status.push_points.Given as goal

-- the lines so far, with those of the points that are left, are all
abbrev pub invariant-loop-watched : goal.invariant-loop-watched
invariant-loop-watched g l = string_bytes l.out ++ points_status l.at (g.D.Device.table l.device) l.connections (drop l.watched-index l.points) ≡ string_bytes l.fn.out ++ points_status l.at (g.D.Device.table l.device) l.connections l.points
