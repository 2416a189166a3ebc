use Rattle.std.proofs.Common.{arith, refl}
use Rattle.indexed_connections.specs.ConsumerTables.{consumers_among}
use Rattle.indexed_connections.proofs.Entries.{entry_added}
use Rattle.indexed_connections.proofs.consumer_table.add_entry.Goals as goal

pub returns-clause-within : goal.returns-clause-within
returns-clause-within c _ =
    (entry_added (consumers_among c.args.number c.args.peers.now) c.args.entries.now.items c.push_reserved.new.self.items c.add_consumers.new.nodes.items c.args.nodes.now.items _ c.len-2.result c.requires (c.add_consumers.ensures c.if-not-add_consumers.false) c.push_reserved.ensures.items (omega (arith, c.len-first.ensures)) (omega (arith, c.len-2.ensures)) refl).1

pub returns-clause-added : goal.returns-clause-added
returns-clause-added c _ =
    (entry_added (consumers_among c.args.number c.args.peers.now) c.args.entries.now.items c.push_reserved.new.self.items c.add_consumers.new.nodes.items c.args.nodes.now.items _ c.len-2.result c.requires (c.add_consumers.ensures c.if-not-add_consumers.false) c.push_reserved.ensures.items (omega (arith, c.len-first.ensures)) (omega (arith, c.len-2.ensures)) refl).0
