use Rattle.std.proofs.Common.{arith}
use Rattle.cip_types.specs.Indices.{made_more}
use Rattle.cip_productions.specs.Productions.{sent}
use Rattle.adapter_table.specs.Productions.{production_of}
use Rattle.indexed_connections.proofs.list.changes.datagrams.Goals as goal

pub loop-producer-preserved : goal.loop-producer-preserved
loop-producer-preserved c = made_more sent (production_of c.args.rows.now c.args.input.now) c.args.changing.now c.loop-producer.producer-index _ c.loop-producer.datagrams.items _ _ (omega arith) c.loop-producer.invariant c.in_ok-datagram.ensures c.in_ok-push.ensures.items
