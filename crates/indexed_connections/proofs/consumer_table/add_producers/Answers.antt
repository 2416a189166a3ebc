use Rattle.std.proofs.Common.{◌+◌, map, drop}
use Rattle.indexed_connections.specs.ConsumerTables.{consumers_in}
use Rattle.indexed_connections.proofs.Entries.{taken_at, taken_past, taken_more}
use Rattle.indexed_connections.proofs.Singles.{single_is_new}
use Rattle.indexed_connections.proofs.consumer_table.add_producers.Goals as goal

pub add_producer-requires-clause-single : goal.add_producer-requires-clause-single
add_producer-requires-clause-single c =
    let known = map (consumers_in c.loop-peer.nodes.items) c.loop-peer.entries.items in
    single_is_new c.args.connections.now (drop (c.loop-peer.peer-index + 1) c.args.peers.now) _ known
    (taken_at c.args.connections.now c.args.peers.now c.loop-peer.peer-index _ known c.loop-peer-test.true c.loop-peer.invariant.1)

pub loop-peer-preserved : goal.loop-peer-preserved
loop-peer-preserved c =
    let known = map (consumers_in c.loop-peer.nodes.items) c.loop-peer.entries.items in (
      c.add_producer.ensures.within c.if-not-add_producer.false,
      taken_more c.args.connections.now (drop (c.loop-peer.peer-index + 1) c.args.peers.now) _ known _
          (taken_at c.args.connections.now c.args.peers.now c.loop-peer.peer-index _ known c.loop-peer-test.true c.loop-peer.invariant.1)
          (c.add_producer.ensures.added c.if-not-add_producer.false),
    )

pub returns-clause-consumer_table : goal.returns-clause-consumer_table
returns-clause-consumer_table c _ =
    taken_past c.args.connections.now c.args.peers.now c.loop-peer.peer-index (map (consumers_in c.loop-peer.nodes.items) c.loop-peer.entries.items) c.loop-peer-test.false c.loop-peer.invariant.1
