use Rattle.std.proofs.Common.{arith}
use Rattle.cip_types.specs.Firsts.{first_taken}
use Rattle.adapter_table.specs.Productions.{same_node}
use Rattle.indexed_connections.proofs.Orders.{nodes_transitive}
use Rattle.indexed_connections.proofs.list.producers.each_node.Goals as goal

pub loop-node-preserved : goal.loop-node-preserved
loop-node-preserved c = first_taken same_node nodes_transitive c.args.nodes.now c.loop-node.node-index _ c.loop-node.each.items _ (omega arith) c.loop-node.invariant c.in_ok-add_node.ensures
