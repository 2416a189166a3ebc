use Rattle.cip_types.specs.Indices.{Mapped}
use Rattle.mcast_pool.specs.Groups.{produced_if_due}
use Rattle.mcast_pool.proofs.pool.Pool.produce_due.Given as goal

abbrev pub invariant-loop-group : goal.invariant-loop-group
invariant-loop-group l = Mapped (produced_if_due l.clock) l.initial.group-items l.group-items l.group-index
