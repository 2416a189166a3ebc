use Rattle.std.proofs.Common.{map, length, drop}
use Rattle.indexed_connections.specs.ConsumerTables.{consumers_in, AreWithin}
use Rattle.indexed_connections.proofs.Entries.{TakenUp}
use Rattle.indexed_connections.proofs.consumer_table.add_producers.Given as goal

abbrev pub invariant-loop-peer : goal.invariant-loop-peer
invariant-loop-peer l = AreWithin (length l.nodes.items) l.entries.items × TakenUp l.connections (drop l.peer-index l.peers) (map (consumers_in l.nodes.items) l.entries.items)
