use Rattle.std.proofs.Common.{arith}
use Rattle.cip_types.specs.Firsts.{first_taken}
use Rattle.cip_productions.specs.Productions.{same_producer}
use Rattle.indexed_connections.proofs.Orders.{producers_transitive}
use Rattle.indexed_connections.proofs.list.producers.each_producer.Goals as goal

pub loop-producer-preserved : goal.loop-producer-preserved
loop-producer-preserved c = first_taken same_producer producers_transitive c.args.producers.now c.loop-producer.producer-index _ c.loop-producer.each.items _ (omega arith) c.loop-producer.invariant c.in_ok-add_producer.ensures
