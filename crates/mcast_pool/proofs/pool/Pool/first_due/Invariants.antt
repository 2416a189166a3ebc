use Rattle.std.proofs.Common.{◌≡◌, drop}
use Rattle.mcast_pool.specs.Groups.{first_due}
use Rattle.mcast_pool.proofs.pool.Pool.first_due.Given as goal

abbrev pub invariant-loop-at : goal.invariant-loop-at
invariant-loop-at l = l.first ≡ first_due (drop l.at l.self)
