use Rattle.std.proofs.Common.{◌≡◌, take, map}
use Rattle.adapter_table.specs.Productions.{peer_of, group}
use Rattle.indexed_connections.proofs.list.producers.peers.Given as goal

abbrev pub invariant-loop-row : goal.invariant-loop-row
invariant-loop-row l = l.nodes.items ≡ map peer_of (group l.fn.number (take l.row-index l.rows))
