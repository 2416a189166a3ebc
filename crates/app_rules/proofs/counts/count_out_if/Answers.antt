use Rattle.std.proofs.Common.{◌≡◌, ◌≤◌, ◌-◌, ◌==◌, true, false, Some, ◌∙◌, ap, sym, subst, set, get_or, arith}
use Rattle.std.specs.List.{position}
use Rattle.std.proofs.lemmas.Bool.Decides.{nat_tests}
use Rattle.std.proofs.lemmas.List.{get_or_default}
use Rattle.app_rules.specs.declared.counts.Count.{Count}
use Rattle.app_rules.specs.Counts.{is_at}
use Rattle.app_rules.proofs.Counting.{first_at, removed_there, less_there, is_placed, some_there}
use Rattle.app_rules.proofs.counts.count_out_if.Goals as goal

pub unwrap-at-requires : goal.unwrap-at-requires
unwrap-at-requires c =
    is_placed c.args.point c.args.counts.now.items c.index_of.result (c.index_of.ensures ∙ ap (position (is_at c.args.point)) c.deref.ensures.value) (c.requires.some c.if-not-counted.false)

pub overflow_sub-count : goal.overflow_sub-count
overflow_sub-count c =
    let at : position (is_at c.args.point) c.args.counts.now.items ≡ Some c.unwrap-at.result = ap (position (is_at c.args.point)) (sym c.deref.ensures.value) ∙ sym c.index_of.ensures ∙ c.unwrap-at.ensures in
    let first = first_at c.args.point c.args.counts.now.items c.unwrap-at.result c.index_mut-count.result.now at in
    let one = some_there c.args.counts.now.items c.unwrap-at.result c.index_mut-count.result.now c.requires.counts first.within in
    subst (λ (count : Count). 1 ≤ count.number) (sym c.index_mut-count.ensures.value) one

pub returns-then-index-eq1-clause-counts : goal.returns-then-index-eq1-clause-counts
returns-then-index-eq1-clause-counts c =
    let at : position (is_at c.args.point) c.args.counts.now.items ≡ Some c.unwrap-at.result = ap (position (is_at c.args.point)) (sym c.deref.ensures.value) ∙ sym c.index_of.ensures ∙ c.unwrap-at.ensures in
    let first = first_at c.args.point c.args.counts.now.items c.unwrap-at.result c.index.result.now at in
    let one : c.index.result.now.number == 1 ≡ true = let is = c.if-index-eq1.true in grind (arith, nat_tests) in
    rw c.if-not-counted.false (c.remove.ensures.items ∙ removed_there c.args.point c.args.counts.now.items c.unwrap-at.result c.index.result.now first (ap (λ (count : Count). count.number == 1) (sym c.index.ensures) ∙ one))

pub returns-else-index-eq1-clause-counts : goal.returns-else-index-eq1-clause-counts
returns-else-index-eq1-clause-counts c =
    let d = c.index_mut-count.result.now in
    let at : position (is_at c.args.point) c.args.counts.now.items ≡ Some c.unwrap-at.result = ap (position (is_at c.args.point)) (sym c.deref.ensures.value) ∙ sym c.index_of.ensures ∙ c.unwrap-at.ensures in
    let first = first_at c.args.point c.args.counts.now.items c.unwrap-at.result d at in
    let more : c.index.result.now.number == 1 ≡ false = let not = c.if-index-eq1.false in grind (arith, nat_tests) in
    let there : get_or c.args.counts.now.items c.unwrap-at.result d ≡ c.index.result.now = get_or_default c.args.counts.now.items c.unwrap-at.result d c.index.result.now first.within ∙ sym c.index.ensures in
    rw c.if-not-counted.false (ap (λ (count : Count). set c.args.counts.now.items c.unwrap-at.result (record count { number = count.number - 1 })) c.index_mut-count.ensures.value
    ∙ less_there c.args.point c.args.counts.now.items c.unwrap-at.result d first (ap (λ (count : Count). count.number == 1) there ∙ more))
