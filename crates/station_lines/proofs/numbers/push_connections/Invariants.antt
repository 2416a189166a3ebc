use Rattle.std.proofs.Common.{◌≡◌, ◌++◌, string_bytes}
use Rattle.station_lines.specs.Numbers.{numbers_to}
use Rattle.station_lines.proofs.numbers.push_connections.Given as goal

-- the lines of the places so far
abbrev pub invariant-loop-place : goal.invariant-loop-place
invariant-loop-place g l = string_bytes l.out ≡ string_bytes l.fn.out ++ numbers_to l.at (g.D.Device.table l.device) l.connections l.place
