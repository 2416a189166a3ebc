-- Groups that change stay apart, within their limits, and few.
use Rattle.std.proofs.Common.{◌≡◌, ◌<◌, ◌≤◌, ℕ, ◌+◌, ◌-◌, ◌^◌, ◌==◌, ◌&&◌, ◌||◌, Bool, true, false, cond, List, [], ◌∷◌, ◌++◌, length, map, find, Option, Some, None, refl, sym, subst, ◌∙◌, arith}
use Rattle.std.specs.List.{list_any}
use Rattle.std.proofs.lemmas.Bool.Decides.{nat_tests}
use Rattle.cip_types.specs.declared.names.Ms.{Ms}
use Rattle.cip_netparams.specs.declared.Trigger.{Trigger}
use Rattle.cip_netparams.specs.declared.Trigger.TheVariants.{Cyclic, ChangeOfState}
use Rattle.cip_productions.specs.declared.production.Production.{Production}
use Rattle.cip_productions.specs.Productions.{produced, changed, changed_by, deferred, is_free, is_on_change}
use Rattle.mcast_pool.specs.declared.group.Group.{Group}
use Rattle.mcast_pool.specs.Groups.{number_of, has_number, serves, is_like, is_due, change_first, left, rest_of, one_more, one_less, subscribers, numbered, with_production, written, waits, touched, touched_production, produced_group, produced_if_due, written_and_changed, AreGroups, FitsGroup, MayProduce, IsPool}
use Rattle.mcast_pool.proofs.Limits.{fits_produced, fits_if_due, fits_touched, fits_changed}

-- CHANGES THAT KEEP WHO A GROUP IS

-- a change keeps the number, the point and whether it is shared
pub record Keeps (change : Group → Group) : Type 0 where
  pub number : (group : Group) → number_of (change group) ≡ number_of group
  pub point : (group : Group) → (change group).producer.point ≡ group.producer.point
  pub shared : (group : Group) → (change group).shared ≡ group.shared

like_changed : (change : Group → Group) → Keeps change → (group other : Group) → is_like group (change other) ≡ is_like group other
like_changed change keeps group other = rw (keeps.number other, keeps.shared other, keeps.point other) refl

changed_like : (change : Group → Group) → Keeps change → (group other : Group) → is_like (change group) other ≡ is_like group other
changed_like change keeps group other = rw (keeps.number group, keeps.shared group, keeps.point group) refl

any_same : (p q : Group → Bool) → ((group : Group) → p group ≡ q group) → (groups : List Group) → list_any p groups ≡ list_any q groups
any_same p q same [] = refl
any_same p q same (group ∷ groups) = rw (same group, any_same p q same groups) refl

any_map : (change : Group → Group) → Keeps change → (group : Group) (groups : List Group) → list_any (is_like group) (map change groups) ≡ list_any (is_like group) groups
any_map change keeps group [] = refl
any_map change keeps group (other ∷ groups) = rw (like_changed change keeps group other, any_map change keeps group groups) refl

pub each_map : (change : Group → Group) → Keeps change → ((group : Group) → (change group).subscribers ≡ group.subscribers) → ((group : Group) → FitsGroup group → FitsGroup (change group)) → (groups : List Group) → AreGroups groups → AreGroups (map change groups)
each_map change keeps same fits [] each = tt
each_map change keeps same fits (group ∷ groups) each = (
  fits group each.0,
  subst (λ (n : ℕ). 1 ≤ n) (sym (same group)) each.1,
  any_same (is_like (change group)) (is_like group) (changed_like change keeps group) (map change groups) ∙ any_map change keeps group groups ∙ each.2,
  each_map change keeps same fits groups each.3,
)

pub sum_map : (change : Group → Group) → ((group : Group) → (change group).subscribers ≡ group.subscribers) → (groups : List Group) → subscribers (map change groups) ≡ subscribers groups
sum_map change same [] = refl
sum_map change same (group ∷ groups) = rw (same group, sum_map change same groups) refl

any_step : (b : Bool) (p : Group → Bool) (other new : Group) (groups rest : List Group) → p new ≡ p other → list_any p rest ≡ list_any p groups → list_any p (cond b (new ∷ groups) (other ∷ rest)) ≡ list_any p (other ∷ groups)
any_step true p other new groups rest is same = rw is refl
any_step false p other new groups rest is same = rw same refl

any_change : (test : Group → Bool) (change : Group → Group) → Keeps change → (group : Group) (groups : List Group) → list_any (is_like group) (change_first test change groups) ≡ list_any (is_like group) groups
any_change test change keeps group [] = refl
any_change test change keeps group (other ∷ groups) =
    any_step (test other) (is_like group) other (change other) groups (change_first test change groups) (like_changed change keeps group other) (any_change test change keeps group groups)

pub each_change : (test : Group → Bool) (change : Group → Group) → Keeps change → ((group : Group) → group.subscribers ≤ (change group).subscribers) → (groups : List Group) → ((group : Group) → find test groups ≡ Some group → FitsGroup group → FitsGroup (change group)) → AreGroups groups → AreGroups (change_first test change groups)
each_change test change keeps more [] fits each = tt
each_change test change keeps more (group ∷ groups) fits each = split (test group) refl (λ past. each_change test change keeps more groups (λ other found. fits other (rw past found)) each.3)
  where
    split : (b : Bool) → test group ≡ b → (test group ≡ false → AreGroups (change_first test change groups)) → AreGroups (cond b (change group ∷ groups) (group ∷ change_first test change groups))
    split true is rest =
        let le = more group in
        let one = each.1 in
        (fits group (rw is refl) each.0, omega arith, any_same (is_like (change group)) (is_like group) (changed_like change keeps group) groups ∙ each.2, each.3)
    split false is rest = (each.0, each.1, any_change test change keeps group groups ∙ each.2, rest is)

pub sum_change : (test : Group → Bool) (change : Group → Group) (more : ℕ) → ((group : Group) → (change group).subscribers ≤ group.subscribers + more) → (groups : List Group) → subscribers (change_first test change groups) ≤ subscribers groups + more
sum_change test change more le [] = omega arith
sum_change test change more le (group ∷ groups) = split (test group) (sum_change test change more le groups) (le group)
  where
    split : (b : Bool) → subscribers (change_first test change groups) ≤ subscribers groups + more → (change group).subscribers ≤ group.subscribers + more → subscribers (cond b (change group ∷ groups) (group ∷ change_first test change groups)) ≤ group.subscribers + subscribers groups + more
    split true rest here = omega arith
    split false rest here = omega arith

-- ---- which changes do

number_if : (b : Bool) (group new : Group) → number_of new ≡ number_of group → number_of (cond b new group) ≡ number_of group
number_if true group new same = same
number_if false group new same = refl

point_if : (b : Bool) (group new : Group) → new.producer.point ≡ group.producer.point → (cond b new group).producer.point ≡ group.producer.point
point_if true group new same = same
point_if false group new same = refl

shared_if : (b : Bool) (group new : Group) → new.shared ≡ group.shared → (cond b new group).shared ≡ group.shared
shared_if true group new same = same
shared_if false group new same = refl

pub subscribers_if : (b : Bool) (group new : Group) → new.subscribers ≡ group.subscribers → (cond b new group).subscribers ≡ group.subscribers
subscribers_if true group new same = same
subscribers_if false group new same = refl

pub keeps_more : Keeps one_more
keeps_more = record { number = λ group. refl; point = λ group. refl; shared = λ group. refl }

pub keeps_produced : (clock : Ms) → Keeps (produced_group clock)
keeps_produced clock = record { number = λ group. refl; point = λ group. refl; shared = λ group. refl }

pub keeps_if_due : (clock : Ms) → Keeps (produced_if_due clock)
keeps_if_due clock = record {
  number = λ group. number_if (is_due clock group) group (produced_group clock group) refl;
  point = λ group. point_if (is_due clock group) group (produced_group clock group) refl;
  shared = λ group. shared_if (is_due clock group) group (produced_group clock group) refl;
}

touched_number : (clock : Ms) (group : Group) → (touched_production clock group.producer.production).producer ≡ number_of group
touched_number clock group = split (waits clock group.producer.production)
  where
    split : (b : Bool) → (cond b (deferred (written group.producer.production)) (written group.producer.production)).producer ≡ number_of group
    split true = refl
    split false = refl

pub keeps_touched : (clock : Ms) (point : ℕ) → Keeps (touched clock point)
keeps_touched clock point = record {
  number = λ group. number_if (group.producer.point == point) group (with_production group (touched_production clock group.producer.production)) (touched_number clock group);
  point = λ group. point_if (group.producer.point == point) group (with_production group (touched_production clock group.producer.production)) refl;
  shared = λ group. shared_if (group.producer.point == point) group (with_production group (touched_production clock group.producer.production)) refl;
}

changed_number : (trigger : Trigger) (clock : Ms) (api : ℕ) (production : Production) → (changed_by trigger clock api production).producer ≡ production.producer
changed_number Cyclic clock api production = refl
changed_number ChangeOfState clock api production = split (is_free clock production)
  where
    split : (b : Bool) → (cond b (produced clock api production) (deferred production)).producer ≡ production.producer
    split true = refl
    split false = refl

pub keeps_changed : (clock : Ms) (point : ℕ) → Keeps (written_and_changed clock point)
keeps_changed clock point = record {
  number = λ group. number_if (group.producer.point == point) group (with_production group (changed clock group.api (written group.producer.production))) (changed_number group.producer.production.trigger clock group.api (written group.producer.production));
  point = λ group. point_if (group.producer.point == point) group (with_production group (changed clock group.api (written group.producer.production))) refl;
  shared = λ group. shared_if (group.producer.point == point) group (with_production group (changed clock group.api (written group.producer.production))) refl;
}

-- ---- each of them leaves a pool a pool

pub pool_if_due : (clock : Ms) (groups : List Group) (capacity : ℕ) → clock.0 ≤ 2 ^ 48 → IsPool groups capacity → IsPool (map (produced_if_due clock) groups) capacity
pool_if_due clock groups capacity time pool =
    let same : (group : Group) → (produced_if_due clock group).subscribers ≡ group.subscribers = λ group. subscribers_if (is_due clock group) group (produced_group clock group) refl in
    record {
      each = each_map (produced_if_due clock) (keeps_if_due clock) same (λ group fits. fits_if_due clock group time fits) groups pool.each;
      few = subst (λ (n : ℕ). n ≤ 64) (sym (sum_map (produced_if_due clock) same groups)) pool.few;
      space = pool.space;
    }

pub pool_touched : (clock : Ms) (point : ℕ) (groups : List Group) (capacity : ℕ) → IsPool groups capacity → IsPool (map (touched clock point) groups) capacity
pool_touched clock point groups capacity pool =
    let same : (group : Group) → (touched clock point group).subscribers ≡ group.subscribers = λ group. subscribers_if (group.producer.point == point) group (with_production group (touched_production clock group.producer.production)) refl in
    record {
      each = each_map (touched clock point) (keeps_touched clock point) same (fits_touched clock point) groups pool.each;
      few = subst (λ (n : ℕ). n ≤ 64) (sym (sum_map (touched clock point) same groups)) pool.few;
      space = pool.space;
    }

pub pool_changed : (clock : Ms) (point : ℕ) (groups : List Group) (capacity : ℕ) → clock.0 ≤ 2 ^ 48 → IsPool groups capacity → IsPool (map (written_and_changed clock point) groups) capacity
pool_changed clock point groups capacity time pool =
    let same : (group : Group) → (written_and_changed clock point group).subscribers ≡ group.subscribers = λ group. subscribers_if (group.producer.point == point) group (with_production group (changed clock group.api (written group.producer.production))) refl in
    record {
      each = each_map (written_and_changed clock point) (keeps_changed clock point) same (λ group fits. fits_changed clock point group time fits) groups pool.each;
      few = subst (λ (n : ℕ). n ≤ 64) (sym (sum_map (written_and_changed clock point) same groups)) pool.few;
      space = pool.space;
    }

may_of : (clock : Ms) (found : Option Group) (group : Group) → found ≡ Some group → MayProduce clock found → is_due clock group || is_on_change group.producer.production.trigger ≡ true
may_of clock None group is may = absurd cc
may_of clock (Some other) group is may = let same : other ≡ group = cc in subst (λ (g : Group). is_due clock g || is_on_change g.producer.production.trigger ≡ true) same may

pub pool_produced : (clock : Ms) (number : ℕ) (groups : List Group) (capacity : ℕ) → clock.0 ≤ 2 ^ 48 → MayProduce clock (numbered number groups) → IsPool groups capacity → IsPool (change_first (has_number number) (produced_group clock) groups) capacity
pool_produced clock number groups capacity time may pool =
    let sum = sum_change (has_number number) (produced_group clock) 0 (λ group. omega arith) groups in
    let few = pool.few in
    record {
      each = each_change (has_number number) (produced_group clock) (keeps_produced clock) (λ group. omega arith) groups (λ group found fits. fits_produced clock group time (may_of clock (numbered number groups) group found may) fits) pool.each;
      few = omega arith;
      space = pool.space;
    }

fits_more : (group : Group) → FitsGroup group → FitsGroup (one_more group)
fits_more group fits = record { api = fits.api; due = fits.due }

pub pool_joined : (point : ℕ) (groups : List Group) (capacity : ℕ) → subscribers groups < 64 → IsPool groups capacity → IsPool (change_first (serves point) one_more groups) capacity
pool_joined point groups capacity few pool =
    let sum = sum_change (serves point) one_more 1 (λ group. omega arith) groups in
    record {
      each = each_change (serves point) one_more keeps_more (λ group. omega arith) groups (λ group found fits. fits_more group fits) pool.each;
      few = omega arith;
      space = pool.space;
    }

-- A PRODUCER THAT ENDS

any_rest : (p : Group → Bool) (group : Group) (groups : List Group) → p (one_less group) ≡ p group → list_any p (group ∷ groups) ≡ false → list_any p (rest_of group groups) ≡ false
any_rest p group groups same none = split (group.subscribers == 1) (p group) refl none
  where
    split : (b c : Bool) → p group ≡ c → c || list_any p groups ≡ false → list_any p (cond b groups (one_less group ∷ groups)) ≡ false
    split true true is h = absurd cc
    split true false is h = h
    split false true is h = absurd cc
    split false false is h = rw (same, is) h

any_left : (p : Group → Bool) (number : ℕ) → ((group : Group) → p (one_less group) ≡ p group) → (groups : List Group) → list_any p groups ≡ false → list_any p (left number groups) ≡ false
any_left p number same [] none = refl
any_left p number same (group ∷ groups) none = split (has_number number group) (p group) refl none (any_left p number same groups)
  where
    split : (b c : Bool) → p group ≡ c → c || list_any p groups ≡ false → (list_any p groups ≡ false → list_any p (left number groups) ≡ false) → list_any p (cond b (rest_of group groups) (group ∷ left number groups)) ≡ false
    split true c is h rest = any_rest p group groups (same group) none
    split false true is h rest = absurd cc
    split false false is h rest = rw is (rest h)

rest_each : (group : Group) (groups : List Group) → AreGroups (group ∷ groups) → AreGroups (rest_of group groups)
rest_each group groups each = split (group.subscribers == 1) refl
  where
    split : (b : Bool) → group.subscribers == 1 ≡ b → AreGroups (cond b groups (one_less group ∷ groups))
    split true is = each.3
    split false is =
        let one = each.1 in
        let fits = each.0 in
        let some : 1 ≤ group.subscribers - 1 = grind (arith, nat_tests) in
        (record { api = fits.api; due = fits.due }, some, each.2, each.3)

each_left : (number : ℕ) (groups : List Group) → AreGroups groups → AreGroups (left number groups)
each_left number [] each = tt
each_left number (group ∷ groups) each = split (has_number number group) (each_left number groups each.3)
  where
    split : (b : Bool) → AreGroups (left number groups) → AreGroups (cond b (rest_of group groups) (group ∷ left number groups))
    split true rest = rest_each group groups each
    split false rest = (each.0, each.1, any_left (is_like group) number (λ other. refl) groups each.2, rest)

sum_left : (number : ℕ) (groups : List Group) → subscribers (left number groups) ≤ subscribers groups
sum_left number [] = omega arith
sum_left number (group ∷ groups) = split (has_number number group) (group.subscribers == 1) (sum_left number groups)
  where
    split : (b c : Bool) → subscribers (left number groups) ≤ subscribers groups → subscribers (cond b (cond c groups (one_less group ∷ groups)) (group ∷ left number groups)) ≤ group.subscribers + subscribers groups
    split true true rest = omega arith
    split true false rest = omega arith
    split false c rest = omega arith

pub pool_left : (number : ℕ) (groups : List Group) (capacity : ℕ) → IsPool groups capacity → IsPool (left number groups) capacity
pool_left number groups capacity pool =
    let sum = sum_left number groups in
    let few = pool.few in
    record { each = each_left number groups pool.each; few = omega arith; space = pool.space }

-- A PRODUCER THAT BEGINS

any_append : (p : Group → Bool) (groups : List Group) (new : Group) → list_any p groups ≡ false → p new ≡ false → list_any p (groups ++ new ∷ []) ≡ false
any_append p [] new none is = rw is refl
any_append p (group ∷ groups) new none is = split (p group) none (any_append p groups new)
  where
    split : (b : Bool) → b || list_any p groups ≡ false → (list_any p groups ≡ false → p new ≡ false → list_any p (groups ++ new ∷ []) ≡ false) → b || list_any p (groups ++ new ∷ []) ≡ false
    split true h rest = absurd cc
    split false h rest = rest h is

not_found : (test : Group → Bool) (group : Group) (groups : List Group) → find test (group ∷ groups) ≡ None → (test group ≡ false) × (find test groups ≡ None)
not_found test group groups none = split (test group) refl none
  where
    split : (b : Bool) → test group ≡ b → cond b (Some group) (find test groups) ≡ None → (test group ≡ false) × (find test groups ≡ None)
    split true is h = absurd cc
    split false is h = (is, h)

other_number : (a b : ℕ) → a == b ≡ false → b == a ≡ false
other_number a b is = grind (arith, nat_tests)

-- a new one is like none of those that have another number and, where it is shared, do not serve its point
unlike : (a b c : Bool) (point other : ℕ) → (c ≡ true → a && point == other ≡ false) → b ≡ false → b || (a && (c && other == point)) ≡ false
unlike a true c point other apart is = absurd cc
unlike false false c point other apart is = refl
unlike true false false point other apart is = refl
unlike true false true point other apart is = other_number point other (apart refl)

pub each_more : (new : Group) (groups : List Group) → FitsGroup new → 1 ≤ new.subscribers → numbered (number_of new) groups ≡ None → (new.shared ≡ true → find (serves new.producer.point) groups ≡ None) → AreGroups groups → AreGroups (groups ++ new ∷ [])
each_more new [] fits one unused apart each = (fits, one, refl, tt)
each_more new (group ∷ groups) fits one unused apart each =
    let here = not_found (has_number (number_of new)) group groups unused in (
      each.0,
      each.1,
      any_append (is_like group) groups new each.2
          (unlike group.shared (number_of new == number_of group) new.shared group.producer.point new.producer.point (λ is. (not_found (serves new.producer.point) group groups (apart is)).0) (other_number (number_of group) (number_of new) here.0)),
      each_more new groups fits one here.1 (λ is. (not_found (serves new.producer.point) group groups (apart is)).1) each.3,
    )

sum_more : (groups : List Group) (new : Group) → subscribers (groups ++ new ∷ []) ≡ subscribers groups + new.subscribers
sum_more [] new = omega arith
sum_more (group ∷ groups) new = let rest = sum_more groups new in omega arith

pub pool_more : (new : Group) (groups : List Group) (capacity : ℕ) → FitsGroup new → new.subscribers ≡ 1 → numbered (number_of new) groups ≡ None → (new.shared ≡ true → find (serves new.producer.point) groups ≡ None) → subscribers groups < 64 → IsPool groups capacity → IsPool (groups ++ new ∷ []) capacity
pool_more new groups capacity fits one unused apart few pool =
    let sum = sum_more groups new in
    record { each = each_more new groups fits (omega arith) unused apart pool.each; few = omega arith; space = pool.space }

-- there are no more producers than connections
pub no_more_groups : (groups : List Group) → AreGroups groups → length groups ≤ subscribers groups
no_more_groups [] each = omega arith
no_more_groups (group ∷ groups) each = let rest = no_more_groups groups each.3 in let one = each.1 in omega arith
