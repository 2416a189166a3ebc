use Rattle.std.proofs.Common.{◌+◌, ◌∙◌, ap, set, arith}
use Rattle.app_rules.specs.declared.counts.Count.{Count}
use Rattle.app_rules.proofs.Counting.{first_at, more_there, few_there}
use Rattle.app_rules.proofs.counts.raise.Goals as goal

pub overflow_add-count : goal.overflow_add-count
overflow_add-count c =
    let first = first_at c.args.point c.args.counts.now.items c.args.at c.index_mut-count.result.now c.requires.index in
    let few = few_there c.args.counts.now.items c.args.at c.index_mut-count.result.now first.within in
    let same = ap (λ (count : Count). count.number) c.index_mut-count.ensures.value in
    let all = c.requires.few in
    omega arith

pub returns-clause-counts : goal.returns-clause-counts
returns-clause-counts c =
    let first = first_at c.args.point c.args.counts.now.items c.args.at c.index_mut-count.result.now c.requires.index in
    ap (λ (count : Count). set c.args.counts.now.items c.args.at (record count { number = count.number + 1 })) c.index_mut-count.ensures.value
    ∙ more_there c.args.point c.args.counts.now.items c.args.at c.index_mut-count.result.now first
