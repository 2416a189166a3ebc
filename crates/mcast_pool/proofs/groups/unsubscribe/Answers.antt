use Rattle.std.proofs.Common.{◌≡◌, ◌≤◌, true, false, Some, ◌∙◌, ap, sym, subst, set, get_or, arith}
use Rattle.std.specs.Option.{option_map}
use Rattle.std.proofs.lemmas.Bool.Decides.{nat_tests}
use Rattle.std.proofs.lemmas.List.{get_or_default}
use Rattle.mcast_pool.specs.declared.group.Group.{Group}
use Rattle.mcast_pool.specs.Groups.{has_number, one_less, is_last}
use Rattle.mcast_pool.proofs.Places.{first_at, found_there, removed_there, less_there, serves_index}
use Rattle.mcast_pool.proofs.groups.unsubscribe.Goals as goal

pub overflow_sub-group : goal.overflow_sub-group
overflow_sub-group c =
    let first = first_at (has_number c.args.number) c.args.groups.now.items c.args.at c.index_mut-group.result.now c.requires.index in
    let one = serves_index c.args.groups.now.items c.args.at c.index_mut-group.result.now c.requires.groups first.within in
    subst (λ (group : Group). 1 ≤ group.subscribers) (sym c.index_mut-group.ensures.value) one

pub returns-then-index-eq1-clause-last : goal.returns-then-index-eq1-clause-last
returns-then-index-eq1-clause-last c =
    let first = first_at (has_number c.args.number) c.args.groups.now.items c.args.at c.index.result.now c.requires.index in
    let one : is_last c.index.result.now ≡ true = let is = c.if-index-eq1.true in grind (arith, nat_tests) in
    ap (λ b. Some b) (sym one ∙ ap is_last c.index.ensures) ∙ ap (option_map is_last) (sym (found_there (has_number c.args.number) c.args.groups.now.items c.args.at c.index.result.now first))

pub returns-then-index-eq1-clause-groups : goal.returns-then-index-eq1-clause-groups
returns-then-index-eq1-clause-groups c =
    let first = first_at (has_number c.args.number) c.args.groups.now.items c.args.at c.index.result.now c.requires.index in
    let one : is_last c.index.result.now ≡ true = let is = c.if-index-eq1.true in grind (arith, nat_tests) in
    c.remove.ensures.items ∙ removed_there c.args.number c.args.groups.now.items c.args.at c.index.result.now first (ap is_last (sym c.index.ensures) ∙ one)

pub returns-else-index-eq1-clause-last : goal.returns-else-index-eq1-clause-last
returns-else-index-eq1-clause-last c =
    let first = first_at (has_number c.args.number) c.args.groups.now.items c.args.at c.index.result.now c.requires.index in
    let more : is_last c.index.result.now ≡ false = let not = c.if-index-eq1.false in grind (arith, nat_tests) in
    ap (λ b. Some b) (sym more ∙ ap is_last c.index.ensures) ∙ ap (option_map is_last) (sym (found_there (has_number c.args.number) c.args.groups.now.items c.args.at c.index.result.now first))

pub returns-else-index-eq1-clause-groups : goal.returns-else-index-eq1-clause-groups
returns-else-index-eq1-clause-groups c =
    let d = c.index_mut-group.result.now in
    let first = first_at (has_number c.args.number) c.args.groups.now.items c.args.at d c.requires.index in
    let other = first_at (has_number c.args.number) c.args.groups.now.items c.args.at c.index.result.now c.requires.index in
    let more : is_last c.index.result.now ≡ false = let not = c.if-index-eq1.false in grind (arith, nat_tests) in
    let there : get_or c.args.groups.now.items c.args.at d ≡ c.index.result.now = get_or_default c.args.groups.now.items c.args.at d c.index.result.now first.within ∙ sym c.index.ensures in
    ap (λ group. set c.args.groups.now.items c.args.at (one_less group)) c.index_mut-group.ensures.value
    ∙ less_there c.args.number c.args.groups.now.items c.args.at d first (ap is_last there ∙ more)
