use Rattle.std.proofs.Common.{◌≡◌, ◌++◌, map}
use Rattle.conn_slab.specs.Producing.{peer_in}
use Rattle.indexed_connections.proofs.consumer_table.add_peers.Given as goal

abbrev pub invariant-loop-peer : goal.invariant-loop-peer
invariant-loop-peer l = l.peers.items ++ l.peer-iterator ≡ map peer_in l.connections
