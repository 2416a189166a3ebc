use Rattle.std.proofs.Common.{sym, subst, vec_capacity, arith}
use Rattle.cip_types.specs.Indices.{map_more}
use Rattle.mcast_pool.specs.Groups.{written_and_changed, AreGroups}
use Rattle.mcast_pool.proofs.Places.{fits_mapped, mapped_back}
use Rattle.mcast_pool.proofs.Keeping.{pool_changed}
use Rattle.mcast_pool.proofs.pool.Pool.write.Goals as goal

pub write_group-requires-clause-fits : goal.write_group-requires-clause-fits
write_group-requires-clause-fits c =
    fits_mapped (written_and_changed c.args.clock c.args.point) c.deref_mut-group-items.result.now c.loop-group.group-items c.loop-group.group-index _
    (subst AreGroups (sym c.deref_mut-group-items.ensures.value) c.self.invariant.each) (omega arith) (omega arith) c.loop-group.invariant

pub loop-group-preserved : goal.loop-group-preserved
loop-group-preserved c =
    map_more (written_and_changed c.args.clock c.args.point) c.deref_mut-group-items.result.now c.loop-group.group-items c.loop-group.group-index _ _ (omega arith) (omega arith) c.loop-group.invariant c.write_group.ensures

pub invariant_of-self : goal.invariant_of-self
invariant_of-self c =
    rw (mapped_back (written_and_changed c.args.clock c.args.point) c.self.inside.groups.len c.self.inside.groups.items c.deref_mut-group-items.result.now c.loop-group.group-items c.loop-group.group-index c.deref_mut-group-items.ensures.value c.deref_mut-group-items.ensures.len (omega arith) (omega arith) c.loop-group.invariant)
    (pool_changed c.args.clock c.args.point c.self.inside.groups.items (vec_capacity c.self.inside.groups) c.requires c.self.invariant)

pub returns : goal.returns
returns c =
    rw (← c.self.view_is) (mapped_back (written_and_changed c.args.clock c.args.point) c.self.inside.groups.len c.self.inside.groups.items c.deref_mut-group-items.result.now c.loop-group.group-items c.loop-group.group-index c.deref_mut-group-items.ensures.value c.deref_mut-group-items.ensures.len (omega arith) (omega arith) c.loop-group.invariant)
