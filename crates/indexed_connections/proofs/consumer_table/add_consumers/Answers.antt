use Rattle.indexed_connections.proofs.Gathering.{gathered_more, gathered_all}
use Rattle.indexed_connections.proofs.consumer_table.add_consumers.Goals as goal

pub loop-peer-preserved : goal.loop-peer-preserved
loop-peer-preserved c = (
  c.loop-peer.invariant.0,
  gathered_more c.args.number c.args.peers.now c.loop-peer.peer-index _ c.len-first.result c.args.nodes.now.items c.loop-peer.nodes.items c.add_consumer.new.nodes.items c.loop-peer-test.true c.loop-peer.invariant.0 c.loop-peer.invariant.1
      (c.add_consumer.ensures c.if-not-add_consumer.false),
)

pub returns : goal.returns
returns c _ = gathered_all c.args.number c.args.peers.now c.loop-peer.peer-index c.args.nodes.now.items c.loop-peer.nodes.items c.loop-peer-test.false c.loop-peer.invariant.1
