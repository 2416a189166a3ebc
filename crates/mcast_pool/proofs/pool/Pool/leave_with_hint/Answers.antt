use Rattle.std.proofs.Common.{◌∙◌, ap, vec_capacity}
use Rattle.std.specs.List.{position}
use Rattle.mcast_pool.specs.Groups.{has_number}
use Rattle.mcast_pool.proofs.Places.{is_placed}
use Rattle.mcast_pool.proofs.Keeping.{pool_left}
use Rattle.mcast_pool.proofs.pool.Pool.leave_with_hint.Goals as goal

pub unwrap-at-requires : goal.unwrap-at-requires
unwrap-at-requires c =
    is_placed (has_number c.args.number) c.self.inside.groups.items c.index_with_hint.result (c.index_with_hint.ensures ∙ ap (position (has_number c.args.number)) c.deref.ensures.value) (rw (← c.self.view_is) at c.requires)

pub invariant_of-self : goal.invariant_of-self
invariant_of-self c =
    rw (c.unsubscribe.ensures.groups, c.unsubscribe.ensures.capacity) (pool_left c.args.number c.self.inside.groups.items (vec_capacity c.self.inside.groups) c.self.invariant)
