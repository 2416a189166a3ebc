use Rattle.std.proofs.Common.{◌≡◌, ◌++◌, length, take}
use Rattle.indexed_connections.specs.ConsumerTables.{consumers_among}
use Rattle.indexed_connections.proofs.consumer_table.add_consumers.Given as goal

abbrev pub invariant-loop-peer : goal.invariant-loop-peer
invariant-loop-peer l = (l.first ≡ length l.fn.nodes.items) × (l.nodes.items ≡ l.fn.nodes.items ++ consumers_among l.number (take l.peer-index l.peers))
