use Rattle.std.proofs.Common.{◌∙◌, ◌++◌, Some, List, ℕ, sym, ap, subst, vec_capacity}
use Rattle.std.specs.List.{position}
use Rattle.std.specs.Option.{option_map}
use Rattle.cip_datagram.specs.Datagram.{datagram_text}
use Rattle.cip_productions.specs.Productions.{production_datagram}
use Rattle.mcast_pool.specs.declared.group.Group.{Group}
use Rattle.mcast_pool.specs.Groups.{has_number, numbered, produced_group, FitsGroup}
use Rattle.mcast_pool.proofs.Places.{is_placed, first_at, found_there, change_at, fits_index}
use Rattle.mcast_pool.proofs.Joining.{may_be}
use Rattle.mcast_pool.proofs.Keeping.{pool_produced}
use Rattle.mcast_pool.proofs.pool.Pool.produce.Goals as goal

pub unwrap-at-requires : goal.unwrap-at-requires
unwrap-at-requires c =
    let may = rw (← c.self.view_is) at c.requires.may in
    is_placed (has_number c.args.number) c.self.inside.groups.items c.index_of.result (c.index_of.ensures ∙ ap (position (has_number c.args.number)) c.deref.ensures.value)
    (may_be c.args.clock (numbered c.args.number c.self.inside.groups.items) may)

pub produced_group-requires-clause-fits : goal.produced_group-requires-clause-fits
produced_group-requires-clause-fits c =
    let at = ap (position (has_number c.args.number)) (sym c.deref.ensures.value) ∙ sym c.index_of.ensures ∙ c.unwrap-at.ensures in
    let first = first_at (has_number c.args.number) c.self.inside.groups.items c.unwrap-at.result c.index_mut-group.result.now at in
    subst FitsGroup (sym c.index_mut-group.ensures.value) (fits_index c.self.inside.groups.items c.unwrap-at.result c.index_mut-group.result.now c.self.invariant.each first.within)

pub invariant_of-self : goal.invariant_of-self
invariant_of-self c =
    let may = rw (← c.self.view_is) at c.requires.may in
    let at = ap (position (has_number c.args.number)) (sym c.deref.ensures.value) ∙ sym c.index_of.ensures ∙ c.unwrap-at.ensures in
    rw (change_at (has_number c.args.number) (produced_group c.args.clock) c.self.inside.groups.items c.unwrap-at.result c.index_mut-group.result.now c.produced_group.result at c.index_mut-group.ensures.value c.produced_group.ensures)
    (pool_produced c.args.clock c.args.number c.self.inside.groups.items (vec_capacity c.self.inside.groups) c.requires.time may c.self.invariant)

pub returns-clause-datagram : goal.returns-clause-datagram
returns-clause-datagram c =
    let at = ap (position (has_number c.args.number)) (sym c.deref.ensures.value) ∙ sym c.index_of.ensures ∙ c.unwrap-at.ensures in
    let said : Group → List ℕ = λ (group : Group). c.args.out.now.items ++ datagram_text (production_datagram group.producer.id group.producer.production c.args.input.now) in
    rw (← c.self.view_is) (ap (λ l. Some l) c.append_datagram.ensures ∙ ap (λ group. Some (said group)) c.index_mut-group.ensures.value
    ∙ ap (option_map said) (sym (found_there (has_number c.args.number) c.self.inside.groups.items c.unwrap-at.result c.index_mut-group.result.now (first_at (has_number c.args.number) c.self.inside.groups.items c.unwrap-at.result c.index_mut-group.result.now at))))

pub returns-clause-groups : goal.returns-clause-groups
returns-clause-groups c =
    let at = ap (position (has_number c.args.number)) (sym c.deref.ensures.value) ∙ sym c.index_of.ensures ∙ c.unwrap-at.ensures in
    rw (← c.self.view_is) (change_at (has_number c.args.number) (produced_group c.args.clock) c.self.inside.groups.items c.unwrap-at.result c.index_mut-group.result.now c.produced_group.result at c.index_mut-group.ensures.value c.produced_group.ensures)
