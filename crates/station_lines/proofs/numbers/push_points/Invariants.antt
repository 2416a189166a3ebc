use Rattle.std.proofs.Common.{◌≡◌, ◌++◌, drop, string_bytes}
use Rattle.station_lines.specs.Numbers.{points_numbers}
use Rattle.station_lines.proofs.numbers.push_points.Given as goal

-- the lines so far, with those of the points that are left, are all
abbrev pub invariant-loop-watched : goal.invariant-loop-watched
invariant-loop-watched l = string_bytes l.out ++ points_numbers l.at l.connections (drop l.watched-index l.points) ≡ string_bytes l.fn.out ++ points_numbers l.at l.connections l.points
