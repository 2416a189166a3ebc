use Rattle.std.proofs.Common.{◌≡◌, ◌≤◌, ◌∙◌, Bool, true, if◌then◌else◌, ◌++◌, ◌∷◌, List, sym, ap, subst}
use Rattle.cip_productions.specs.declared.kind.Kind.TheVariants.{ListenOnly}
use Rattle.adapter_table.specs.Rows.{drives, supports}
use Rattle.app_rules.specs.declared.counts.Count.{Count}
use Rattle.app_rules.specs.Counts.{Counts, number_at, total, is_driver, is_supporter, AreCounted}
use Rattle.app_rules.proofs.Counting.{one_at}
use Rattle.app_rules.proofs.Counted.{drives_at, supports_at, counts_in_less, total_in_less, filter_less, all_filtered_less}
use Rattle.app_rules.proofs.rules.Rules.left.Goals as goal

pub invariant_of-self : goal.invariant_of-self
invariant_of-self c =
    let own = c.self.inside in
    let row = c.args.row.now in
    let owner : c.is_driver.result ≡ true → 1 ≤ number_at row.consumed own.owners.items =
    λ is. subst (λ (v : Counts). 1 ≤ number_at row.consumed v.owners) (sym c.self.view_is) (c.requires.owner (sym c.is_driver.ensures ∙ is)) in
    let supporter : c.is_supporter.result ≡ true → 1 ≤ number_at row.produced own.supporters.items =
    λ is. subst (λ (v : Counts). 1 ≤ number_at row.produced v.supporters) (sym c.self.view_is) (c.requires.supporter (sym c.is_supporter.ensures ∙ is)) in
    rw (c.count_out_if.ensures.counts, c.count_out_if.ensures.capacity, c.count_out_if-2.ensures.counts, c.count_out_if-2.ensures.capacity)
    (record {
      owners = counts_in_less c.is_driver.result row.consumed own.owners.items c.self.invariant.owners owner;
      supporters = counts_in_less c.is_supporter.result row.produced own.supporters.items c.self.invariant.supporters supporter;
      few_owners = total_in_less c.is_driver.result row.consumed own.owners.items c.self.invariant.few_owners;
      few_supporters = total_in_less c.is_supporter.result row.produced own.supporters.items c.self.invariant.few_supporters;
      owner_space = c.self.invariant.owner_space;
      supporter_space = c.self.invariant.supporter_space;
    })

pub returns : goal.returns
returns c = λ front back counted.
    let own = c.self.inside in
    let row = c.args.row.now in
    let was = subst (λ (v : Counts). AreCounted v (front ++ row ∷ back)) (sym c.self.view_is) counted in
    let owner : c.is_driver.result ≡ true → 1 ≤ number_at row.consumed own.owners.items =
    λ is. subst (λ (v : Counts). 1 ≤ number_at row.consumed v.owners) (sym c.self.view_is) (c.requires.owner (sym c.is_driver.ensures ∙ is)) in
    let supporter : c.is_supporter.result ≡ true → 1 ≤ number_at row.produced own.supporters.items =
    λ is. subst (λ (v : Counts). 1 ≤ number_at row.produced v.supporters) (sym c.self.view_is) (c.requires.supporter (sym c.is_supporter.ensures ∙ is)) in
    record {
      owners = λ point.
          ap (λ (l : List Count). number_at point l) c.count_out_if.ensures.counts
          ∙ filter_less c.is_driver.result drives row.consumed row own.owners.items
          (λ p. drives_at row p ∙ ap (λ (b : Bool). if b then one_at row.consumed p else 0) (sym c.is_driver.ensures)) c.self.invariant.owners owner front back was.owners point;
      supporters = λ point.
          ap (λ (l : List Count). number_at point l) c.count_out_if-2.ensures.counts
          ∙ filter_less c.is_supporter.result (supports ListenOnly) row.produced row own.supporters.items
          (λ p. supports_at row p ∙ ap (λ (b : Bool). if b then one_at row.produced p else 0) (sym c.is_supporter.ensures)) c.self.invariant.supporters supporter front back was.supporters point;
      all_owners = ap total c.count_out_if.ensures.counts ∙ all_filtered_less c.is_driver.result is_driver row.consumed row own.owners.items c.is_driver.ensures c.self.invariant.owners owner front back was.all_owners;
      all_supporters = ap total c.count_out_if-2.ensures.counts ∙ all_filtered_less c.is_supporter.result is_supporter row.produced row own.supporters.items c.is_supporter.ensures c.self.invariant.supporters supporter front back was.all_supporters;
    }
