use Rattle.std.proofs.Common.{◌≡◌}
use Rattle.std.specs.List.{list_any}
use Rattle.indexed_connections.specs.Peers.{stays_with}
use Rattle.indexed_connections.proofs.expiries.is_any_left.Given as goal

abbrev pub invariant-loop-peer : goal.invariant-loop-peer
invariant-loop-peer l = list_any (stays_with l.clock l.timed_out) l.peer-iterator ≡ list_any (stays_with l.clock l.timed_out) l.fn.peers
