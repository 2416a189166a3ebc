use Rattle.std.proofs.Common.{◌≡◌, take, map}
use Rattle.cip_productions.specs.Productions.{sent}
use Rattle.adapter_table.specs.Productions.{production_of}
use Rattle.indexed_connections.proofs.list.changes.datagrams.Given as goal

abbrev pub invariant-loop-producer : goal.invariant-loop-producer
invariant-loop-producer l = l.datagrams.items ≡ map sent (map (production_of l.rows l.input) (take l.producer-index l.changing))
