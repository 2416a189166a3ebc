use Rattle.std.proofs.Common.{◌∙◌, Some, ap, sym, set, arith}
use Rattle.std.specs.Option.{option_map}
use Rattle.mcast_pool.specs.Groups.{serves, one_more, producer_of}
use Rattle.mcast_pool.proofs.Places.{first_at, changed_there, found_there, few_index}
use Rattle.mcast_pool.proofs.groups.subscribe.Goals as goal

pub overflow_add-group : goal.overflow_add-group
overflow_add-group c =
    let first = first_at (serves c.args.point) c.args.groups.now.items c.args.at c.index_mut-group.result.now c.requires.index in
    let few = few_index c.args.groups.now.items c.args.at c.index_mut-group.result.now first.within in
    let same = ap (λ group. group.subscribers) c.index_mut-group.ensures.value in
    omega arith

pub returns-clause-groups : goal.returns-clause-groups
returns-clause-groups c =
    let first = first_at (serves c.args.point) c.args.groups.now.items c.args.at c.index_mut-group.result.now c.requires.index in
    ap (λ group. set c.args.groups.now.items c.args.at (one_more group)) c.index_mut-group.ensures.value
    ∙ changed_there (serves c.args.point) one_more c.args.groups.now.items c.args.at c.index_mut-group.result.now first

pub returns-clause-producer : goal.returns-clause-producer
returns-clause-producer c =
    let first = first_at (serves c.args.point) c.args.groups.now.items c.args.at c.index_mut-group.result.now c.requires.index in
    ap (λ group. Some (producer_of group)) c.index_mut-group.ensures.value
    ∙ ap (option_map producer_of) (sym (found_there (serves c.args.point) c.args.groups.now.items c.args.at c.index_mut-group.result.now first))
