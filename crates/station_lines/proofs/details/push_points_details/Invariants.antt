use Rattle.std.proofs.Common.{◌≡◌, ◌++◌, drop, string_bytes}
use Rattle.station_lines.specs.Details.{points_details}
use Rattle.station_lines.proofs.details.push_points_details.Given as goal

-- the lines so far, with those of the points that are left, are all
abbrev pub invariant-loop-watched : goal.invariant-loop-watched
invariant-loop-watched l = string_bytes l.out ++ points_details l.at l.table l.connections (drop l.watched-index l.points) ≡ string_bytes l.fn.out ++ points_details l.at l.table l.connections l.points
