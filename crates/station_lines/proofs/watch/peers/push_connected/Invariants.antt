use Rattle.std.proofs.Common.{◌≡◌}
use Rattle.station_lines.specs.Watch.Peers.{connected_below}
use Rattle.station_lines.proofs.watch.peers.push_connected.Given as goal

-- the peers of the connections at the places so far
abbrev pub invariant-loop-place : goal.invariant-loop-place
invariant-loop-place g l = l.peers.items ≡ connected_below (g.D.Device.table l.device) l.initial.peers.items l.place
