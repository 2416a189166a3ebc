use Rattle.std.proofs.Common.{◌<◌, ◌∙◌, Bool, if◌then◌else◌, List, sym, ap, subst, arith}
use Rattle.cip_productions.specs.declared.kind.Kind.TheVariants.{ListenOnly}
use Rattle.adapter_table.specs.Rows.{drives, supports}
use Rattle.app_rules.specs.declared.counts.Count.{Count}
use Rattle.app_rules.specs.Counts.{Counts, number_at, total, is_driver, is_supporter, AreCounted}
use Rattle.app_rules.proofs.Counting.{one_at, length_few}
use Rattle.app_rules.proofs.Counted.{drives_at, supports_at, counts_in_more, total_in_more, filter_more, all_filtered_more}
use Rattle.app_rules.proofs.rules.Rules.joined.Goals as goal

pub count_in_if-requires-clause-space : goal.count_in_if-requires-clause-space
count_in_if-requires-clause-space c =
    let few : total c.self.inside.owners.items < 64 = rw (← c.self.view_is) at c.requires.owners in
    let long = length_few c.self.inside.owners.items c.self.invariant.owners in
    let space = c.self.invariant.owner_space in
    let len = c.self.inside.owners.ok.0 in
    omega arith

pub count_in_if-requires-2-clause-space : goal.count_in_if-requires-2-clause-space
count_in_if-requires-2-clause-space c =
    let few : total c.self.inside.supporters.items < 64 = rw (← c.self.view_is) at c.requires.supporters in
    let long = length_few c.self.inside.supporters.items c.self.invariant.supporters in
    let space = c.self.invariant.supporter_space in
    let len = c.self.inside.supporters.ok.0 in
    omega arith

pub invariant_of-self : goal.invariant_of-self
invariant_of-self c =
    let own = c.self.inside in
    let row = c.args.row.now in
    let few : total own.owners.items < 64 = rw (← c.self.view_is) at c.requires.owners in
    let others : total own.supporters.items < 64 = rw (← c.self.view_is) at c.requires.supporters in
    rw (c.count_in_if.ensures.counts, c.count_in_if.ensures.capacity, c.count_in_if-2.ensures.counts, c.count_in_if-2.ensures.capacity)
    (record {
      owners = counts_in_more c.is_driver.result row.consumed own.owners.items c.self.invariant.owners;
      supporters = counts_in_more c.is_supporter.result row.produced own.supporters.items c.self.invariant.supporters;
      few_owners = total_in_more c.is_driver.result row.consumed own.owners.items few;
      few_supporters = total_in_more c.is_supporter.result row.produced own.supporters.items others;
      owner_space = c.self.invariant.owner_space;
      supporter_space = c.self.invariant.supporter_space;
    })

pub returns : goal.returns
returns c = λ rows counted.
    let own = c.self.inside in
    let row = c.args.row.now in
    let was = subst (λ (v : Counts). AreCounted v rows) (sym c.self.view_is) counted in
    record {
      owners = λ point.
          ap (λ (l : List Count). number_at point l) c.count_in_if.ensures.counts
          ∙ filter_more c.is_driver.result drives row.consumed row own.owners.items
          (λ p. drives_at row p ∙ ap (λ (b : Bool). if b then one_at row.consumed p else 0) (sym c.is_driver.ensures)) rows was.owners point;
      supporters = λ point.
          ap (λ (l : List Count). number_at point l) c.count_in_if-2.ensures.counts
          ∙ filter_more c.is_supporter.result (supports ListenOnly) row.produced row own.supporters.items
          (λ p. supports_at row p ∙ ap (λ (b : Bool). if b then one_at row.produced p else 0) (sym c.is_supporter.ensures)) rows was.supporters point;
      all_owners = ap total c.count_in_if.ensures.counts ∙ all_filtered_more c.is_driver.result is_driver row.consumed row own.owners.items c.is_driver.ensures rows was.all_owners;
      all_supporters = ap total c.count_in_if-2.ensures.counts ∙ all_filtered_more c.is_supporter.result is_supporter row.produced row own.supporters.items c.is_supporter.ensures rows was.all_supporters;
    }
