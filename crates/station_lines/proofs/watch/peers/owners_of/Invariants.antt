use Rattle.std.proofs.Common.{◌≡◌}
use Rattle.station_lines.specs.Watch.Peers.{owners_below}
use Rattle.station_lines.proofs.watch.peers.owners_of.Given as goal

-- the owners by the connections at the places so far
abbrev pub invariant-loop-place : goal.invariant-loop-place
invariant-loop-place g l = l.owners.items ≡ owners_below (g.D.Device.table l.device) l.place
