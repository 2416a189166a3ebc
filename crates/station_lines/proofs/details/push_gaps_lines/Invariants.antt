use Rattle.std.proofs.Common.{◌≡◌, ◌++◌, string_bytes}
use Rattle.station_lines.specs.Details.{gaps_to}
use Rattle.station_lines.proofs.details.push_gaps_lines.Given as goal

-- the lines of the places so far
abbrev pub invariant-loop-place : goal.invariant-loop-place
invariant-loop-place g l = string_bytes l.out ≡ string_bytes l.fn.out ++ gaps_to l.at (g.D.Device.table l.device) l.connections l.place
