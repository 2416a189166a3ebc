use Rattle.std.proofs.Common.{◌≡◌, take}
use Rattle.cip_types.specs.Order.{first_of_each}
use Rattle.adapter_table.specs.Productions.{same_node}
use Rattle.indexed_connections.proofs.list.producers.each_node.Given as goal

abbrev pub invariant-loop-node : goal.invariant-loop-node
invariant-loop-node l = l.each.items ≡ first_of_each same_node (take l.node-index l.nodes)
