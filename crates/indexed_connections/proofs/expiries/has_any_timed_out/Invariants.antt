use Rattle.std.proofs.Common.{◌≡◌}
use Rattle.std.specs.List.{list_any}
use Rattle.indexed_connections.specs.Peers.{has_timed_out_by}
use Rattle.indexed_connections.proofs.expiries.has_any_timed_out.Given as goal

abbrev pub invariant-loop-peer : goal.invariant-loop-peer
invariant-loop-peer l = list_any has_timed_out_by l.peer-iterator ≡ list_any has_timed_out_by l.fn.peers
