use Rattle.std.proofs.Common.{◌≡◌, ◌++◌, string_bytes}
use Rattle.station_lines.specs.Status.{lines_to}
use Rattle.station_lines.proofs.status.push_connections.Given as goal

-- the lines of the places so far
abbrev pub invariant-loop-place : goal.invariant-loop-place
invariant-loop-place g l = string_bytes l.out ≡ string_bytes l.fn.out ++ lines_to l.at (g.D.Device.table l.device) l.connections l.place
