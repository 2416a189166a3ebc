use Rattle.std.proofs.Common.{◌≡◌, take}
use Rattle.cip_types.specs.Order.{first_of_each}
use Rattle.cip_productions.specs.Productions.{same_producer}
use Rattle.indexed_connections.proofs.list.producers.each_producer.Given as goal

abbrev pub invariant-loop-producer : goal.invariant-loop-producer
invariant-loop-producer l = l.each.items ≡ first_of_each same_producer (take l.producer-index l.producers)
