use Rattle.std.proofs.Common.{arith}
use Rattle.cip_types.specs.Indices.{made_more}
use Rattle.cip_productions.specs.Productions.{sent}
use Rattle.adapter_table.specs.Productions.{due_production}
use Rattle.indexed_connections.proofs.list.productions.datagrams.Goals as goal

pub loop-producer-preserved : goal.loop-producer-preserved
loop-producer-preserved c = made_more sent (due_production c.args.rows.now c.args.assemblies.now.values) c.args.due.now c.loop-producer.producer-index _ c.loop-producer.datagrams.items _ _ (omega arith) c.loop-producer.invariant c.in_ok-due_datagram.ensures c.in_ok-push.ensures.items
