use Rattle.cip_types.specs.Indices.{Mapped}
use Rattle.mcast_pool.specs.Groups.{written_and_changed}
use Rattle.mcast_pool.proofs.pool.Pool.write.Given as goal

abbrev pub invariant-loop-group : goal.invariant-loop-group
invariant-loop-group l = Mapped (written_and_changed l.clock l.point) l.initial.group-items l.group-items l.group-index
