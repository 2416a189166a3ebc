use Rattle.std.proofs.Common.{map}
use Rattle.indexed_connections.specs.ConsumerTables.{consumers_in}
use Rattle.indexed_connections.proofs.Entries.{known, added}
use Rattle.indexed_connections.proofs.Singles.{single_added}
use Rattle.indexed_connections.proofs.consumer_table.add_producer.Goals as goal

pub returns-then-is_single-clause-added : goal.returns-then-is_single-clause-added
returns-then-is_single-clause-added c is =
    single_added c.args.connections.now (map (consumers_in c.args.nodes.now.items) c.args.entries.now.items) _ c.args.peer c.in-Some.number c.is_single.result c.in-Some.is c.requires.single c.is_single.ensures c.if-is_single.true (c.add_entry.ensures.added is)

pub returns-then-has_entry-clause-added : goal.returns-then-has_entry-clause-added
returns-then-has_entry-clause-added c _ =
    known c.args.connections.now c.args.nodes.now.items c.args.entries.now.items c.deref.result.now _ c.in-Some.number c.has_entry.result c.in-Some.is c.has_entry.ensures c.deref.ensures.value c.if-has_entry.true

pub returns-clause-added : goal.returns-clause-added
returns-clause-added c is =
    added c.args.connections.now c.args.peers.now c.args.nodes.now.items c.args.entries.now.items c.deref.result.now _ c.in-Some.number c.has_entry.result _ c.requires.peers c.in-Some.is c.has_entry.ensures c.deref.ensures.value c.if-has_entry.false (c.add_entry-2.ensures.added is)
