use Rattle.std.proofs.Common.{◌≡◌, ◌∙◌, [], ◌∷◌, ◌++◌, Some, None, find, length, sym, ap, refl, arith, vec_capacity}
use Rattle.std.specs.Option.{option_map}
use Rattle.mcast_pool.specs.Groups.{begun, producer_of, serves, index_for, joined_group, joined_by}
use Rattle.mcast_pool.proofs.Places.{not_joined, joined_found, joined_at, found_there, first_at}
use Rattle.mcast_pool.proofs.Keeping.{pool_joined, pool_more, no_more_groups}
use Rattle.mcast_pool.proofs.Joining.{join_result_of, joined_as, begun_as, not_served}
use Rattle.mcast_pool.proofs.pool.Pool.join.Goals as goal

-- the place is that of the group in the list
placed : (c : goal.After-join_result) → index_for c.args.shared c.args.producer.point c.self.inside.groups.items ≡ Some c.in-Some.at
placed c = ap (index_for c.args.shared c.args.producer.point) (sym c.deref.ensures.value) ∙ sym c.index_for.ensures ∙ c.in-Some.is

unplaced : (c : goal.After-join_result-in-None) → index_for c.args.shared c.args.producer.point c.self.inside.groups.items ≡ None
unplaced c = ap (index_for c.args.shared c.args.producer.point) (sym c.deref.ensures.value) ∙ sym c.index_for.ensures ∙ c.in-None.is

found : (c : goal.After-join_result) → find (serves c.args.producer.point) c.self.inside.groups.items ≡ joined_group c.args.shared c.args.producer.point c.self.inside.groups.items
found c =
    let at = joined_at c.args.shared c.args.producer.point c.self.inside.groups.items c.in-Some.at (placed c) in
    let new = begun c.args.producer c.args.shared c.args.api in
    found_there (serves c.args.producer.point) c.self.inside.groups.items c.in-Some.at new (first_at (serves c.args.producer.point) c.self.inside.groups.items c.in-Some.at new at)
    ∙ sym (joined_found c.args.shared c.args.producer.point c.self.inside.groups.items c.in-Some.at new (placed c))

pub invariant_of-self : goal.invariant_of-self
invariant_of-self c =
    let few = rw (← c.self.view_is) at c.requires.few in
    rw (c.subscribe-serving.ensures.groups, c.subscribe-serving.ensures.capacity) (pool_joined c.args.producer.point c.self.inside.groups.items (vec_capacity c.self.inside.groups) few c.self.invariant)

pub push_reserved-requires : goal.push_reserved-requires
push_reserved-requires c =
    let few = rw (← c.self.view_is) at c.requires.few in
    let none = no_more_groups c.self.inside.groups.items c.self.invariant.each in
    let space = c.self.invariant.space in
    let len = ap (λ l. length l) c.deref.ensures.value in
    let long = c.deref.ensures.len in
    omega arith

pub invariant_of-self-in-None : goal.invariant_of-self-in-None
invariant_of-self-in-None c =
    let few = rw (← c.self.view_is) at c.requires.few in
    let unused = rw (← c.self.view_is) at c.requires.unused in
    let none = not_joined c.args.shared c.args.producer.point c.self.inside.groups.items (unplaced c) in
    rw (c.push_reserved.ensures.items, c.push_reserved.ensures.capacity, c.begun.ensures)
    (pool_more (begun c.args.producer c.args.shared c.args.api) c.self.inside.groups.items (vec_capacity c.self.inside.groups) c.requires.fits refl (unused none) (not_served c.args.shared c.args.producer.point c.self.inside.groups.items none) few c.self.invariant)

pub returns-in-Some-clause-joined : goal.returns-in-Some-clause-joined
returns-in-Some-clause-joined c =
    rw (← c.self.view_is) (join_result_of c.args.producer c.subscribe-serving.result (joined_group c.args.shared c.args.producer.point c.self.inside.groups.items) c.join_result.result
    (c.subscribe-serving.ensures.producer ∙ ap (option_map producer_of) (found c)) c.join_result.ensures)

pub returns-in-Some-clause-groups : goal.returns-in-Some-clause-groups
returns-in-Some-clause-groups c =
    rw (← c.self.view_is) (c.subscribe-serving.ensures.groups ∙ joined_as (begun c.args.producer c.args.shared c.args.api) c.self.inside.groups.items c.in-Some.at (placed c))

pub returns-in-None-clause-joined : goal.returns-in-None-clause-joined
returns-in-None-clause-joined c =
    rw (← c.self.view_is) (c.join_result-in-None.ensures ∙ ap (joined_by c.args.producer) (sym (not_joined c.args.shared c.args.producer.point c.self.inside.groups.items (unplaced c))))

pub returns-in-None-clause-groups : goal.returns-in-None-clause-groups
returns-in-None-clause-groups c =
    rw (← c.self.view_is) (c.push_reserved.ensures.items ∙ ap (λ group. c.self.inside.groups.items ++ group ∷ []) c.begun.ensures ∙ begun_as (begun c.args.producer c.args.shared c.args.api) c.self.inside.groups.items (unplaced c))
