use Rattle.std.proofs.Common.{◌≡◌, take, map}
use Rattle.cip_productions.specs.Productions.{sent}
use Rattle.adapter_table.specs.Productions.{due_production}
use Rattle.indexed_connections.proofs.list.productions.datagrams.Given as goal

abbrev pub invariant-loop-producer : goal.invariant-loop-producer
invariant-loop-producer l = l.datagrams.items ≡ map sent (map (due_production l.rows l.assemblies.values) (take l.producer-index l.due))
