use Rattle.std.proofs.Common.{◌≡◌}
use Rattle.station_lines.specs.Watch.Traffic.{counted_below}
use Rattle.station_lines.proofs.watch.traffic.counted_in.Given as goal

-- the entries of the connections at the places so far
abbrev pub invariant-loop-place : goal.invariant-loop-place
invariant-loop-place g l = l.list.items ≡ counted_below l.ms (g.D.Device.table l.device) l.connections l.place
