use Rattle.cip_types.specs.Indices.{Mapped}
use Rattle.mcast_pool.specs.Groups.{touched}
use Rattle.mcast_pool.proofs.pool.Pool.touched.Given as goal

abbrev pub invariant-loop-group : goal.invariant-loop-group
invariant-loop-group l = Mapped (touched l.clock l.point) l.initial.group-items l.group-items l.group-index
