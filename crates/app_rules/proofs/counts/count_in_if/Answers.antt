use Rattle.std.proofs.Common.{◌≡◌, ◌∙◌, None, ap, sym, find}
use Rattle.std.specs.List.{position}
use Rattle.app_rules.specs.Counts.{is_at}
use Rattle.app_rules.proofs.Counting.{more_last, no_place}
use Rattle.app_rules.proofs.counts.count_in_if.Goals as goal

pub returns-in-None-clause-counts : goal.returns-in-None-clause-counts
returns-in-None-clause-counts c =
    let none : find (is_at c.args.point) c.args.counts.now.items ≡ None =
    no_place c.args.point c.args.counts.now.items (ap (position (is_at c.args.point)) (sym c.deref.ensures.value) ∙ sym c.index_of.ensures ∙ c.in-None.is) in
    rw c.if-not-counted.false (c.push_reserved.ensures.items ∙ more_last c.args.point c.args.counts.now.items none)

pub returns-in-Some-clause-counts : goal.returns-in-Some-clause-counts
returns-in-Some-clause-counts c = rw c.if-not-counted.false c.raise.ensures.counts
