use Rattle.std.proofs.Common.{sym, subst, vec_capacity, arith}
use Rattle.cip_types.specs.Indices.{map_more}
use Rattle.mcast_pool.specs.Groups.{produced_if_due, AreGroups}
use Rattle.mcast_pool.proofs.Places.{fits_mapped, mapped_back}
use Rattle.mcast_pool.proofs.Keeping.{pool_if_due}
use Rattle.mcast_pool.proofs.pool.Pool.produce_due.Goals as goal

pub produce_if_due-requires-clause-fits : goal.produce_if_due-requires-clause-fits
produce_if_due-requires-clause-fits c =
    fits_mapped (produced_if_due c.args.clock) c.deref_mut-group-items.result.now c.loop-group.group-items c.loop-group.group-index _
    (subst AreGroups (sym c.deref_mut-group-items.ensures.value) c.self.invariant.each) (omega arith) (omega arith) c.loop-group.invariant

pub loop-group-preserved : goal.loop-group-preserved
loop-group-preserved c =
    map_more (produced_if_due c.args.clock) c.deref_mut-group-items.result.now c.loop-group.group-items c.loop-group.group-index _ _ (omega arith) (omega arith) c.loop-group.invariant c.produce_if_due.ensures

pub invariant_of-self : goal.invariant_of-self
invariant_of-self c =
    rw (mapped_back (produced_if_due c.args.clock) c.self.inside.groups.len c.self.inside.groups.items c.deref_mut-group-items.result.now c.loop-group.group-items c.loop-group.group-index c.deref_mut-group-items.ensures.value c.deref_mut-group-items.ensures.len (omega arith) (omega arith) c.loop-group.invariant)
    (pool_if_due c.args.clock c.self.inside.groups.items (vec_capacity c.self.inside.groups) c.requires c.self.invariant)

pub returns : goal.returns
returns c =
    rw (← c.self.view_is) (mapped_back (produced_if_due c.args.clock) c.self.inside.groups.len c.self.inside.groups.items c.deref_mut-group-items.result.now c.loop-group.group-items c.loop-group.group-index c.deref_mut-group-items.ensures.value c.deref_mut-group-items.ensures.len (omega arith) (omega arith) c.loop-group.invariant)
