-- Counts by their places in a list, and one more or one less of them.
use Rattle.std.proofs.Common.{◌≡◌, ◌<◌, ◌≤◌, ℕ, ◌+◌, ◌-◌, ◌==◌, Bool, true, false, cond, if◌then◌else◌, List, [], ◌∷◌, ◌++◌, length, get_or, set, find, Option, Some, None, zero, suc, refl, sym, ap, subst, ◌∙◌, nat_lt, true≢false, arith, rules}
use Rattle.std.specs.List.{position, position_or_len, remove}
use Rattle.std.specs.Option.{IsSome}
use Rattle.std.proofs.lemmas.Bool.Decides.{nat_tests, Decides-eqb}
use Rattle.std.proofs.lemmas.List.Quantifiers.{position-Some}
use Rattle.cip_types.specs.Indices.{find_none}
use Rattle.app_rules.specs.declared.counts.Count.{Count}
use Rattle.app_rules.specs.Counts.{is_at, number_in, number_at, total, one_more, less, one_less, AreCounts}

-- the first at the point stands at this place
pub record IsFirst (point : ℕ) (counts : List Count) (at : ℕ) (d : Count) : Type 0 where
  pub within : at < length counts
  pub passes : is_at point (get_or counts at d) ≡ true
  pub fails : (k : ℕ) → k < at → is_at point (get_or counts k d) ≡ false

pub first_at : (point : ℕ) (counts : List Count) (at : ℕ) (d : Count) → position (is_at point) counts ≡ Some at → IsFirst point counts at d
first_at point counts at d is = let p = position-Some (is_at point) counts at d is in record { within = p.0; passes = p.1; fails = p.2 }

later : (point : ℕ) (count : Count) (counts : List Count) (at : ℕ) (d : Count) → IsFirst point (count ∷ counts) (suc at) d → IsFirst point counts at d
later point count counts at d is = let lt = is.within in record { within = omega arith; passes = is.passes; fails = λ k below. is.fails (suc k) (omega arith) }

abbrev more : Count → Count
more count = record count { number = count.number + 1 }

abbrev fewer : Count → Count
fewer count = record count { number = count.number - 1 }

pub more_there : (point : ℕ) (counts : List Count) (at : ℕ) (d : Count) → IsFirst point counts at d → set counts at (more (get_or counts at d)) ≡ one_more point counts
more_there point [] at d is = let lt = is.within in absurd (omega arith)
more_there point (count ∷ counts) zero d is = rw is.passes refl
more_there point (count ∷ counts) (suc at) d is =
    let no : is_at point count ≡ false = is.fails 0 (omega arith) in
    rw no (ap (λ l. count ∷ l) (more_there point counts at d (later point count counts at d is)))

pub more_last : (point : ℕ) (counts : List Count) → find (is_at point) counts ≡ None → counts ++ record { point = point; number = 1 } ∷ [] ≡ one_more point counts
more_last point [] none = refl
more_last point (count ∷ counts) none = split (is_at point count) refl none (more_last point counts)
  where
    split : (b : Bool) → is_at point count ≡ b → find (is_at point) (count ∷ counts) ≡ None → (find (is_at point) counts ≡ None → counts ++ record { point = point; number = 1 } ∷ [] ≡ one_more point counts)
        → count ∷ (counts ++ record { point = point; number = 1 } ∷ []) ≡ one_more point (count ∷ counts)
    split true is none rest = let some : find (is_at point) (count ∷ counts) ≡ Some count = ap (λ b. cond b (Some count) (find (is_at point) counts)) is in absurd cc
    split false is none rest = rw is (ap (λ (l : List Count). count ∷ l) (rest (sym (ap (λ b. cond b (Some count) (find (is_at point) counts)) is) ∙ none)))

pub removed_there : (point : ℕ) (counts : List Count) (at : ℕ) (d : Count) → IsFirst point counts at d → (get_or counts at d).number == 1 ≡ true → remove counts at ≡ one_less point counts
removed_there point [] at d is one = let lt = is.within in absurd (omega arith)
removed_there point (count ∷ counts) zero d is one = rw (is.passes, one) refl
removed_there point (count ∷ counts) (suc at) d is one =
    let no : is_at point count ≡ false = is.fails 0 (omega arith) in
    rw no (ap (λ l. count ∷ l) (removed_there point counts at d (later point count counts at d is) one))

pub less_there : (point : ℕ) (counts : List Count) (at : ℕ) (d : Count) → IsFirst point counts at d → (get_or counts at d).number == 1 ≡ false → set counts at (fewer (get_or counts at d)) ≡ one_less point counts
less_there point [] at d is not_one = let lt = is.within in absurd (omega arith)
less_there point (count ∷ counts) zero d is not_one = rw (is.passes, not_one) refl
less_there point (count ∷ counts) (suc at) d is not_one =
    let no : is_at point count ≡ false = is.fails 0 (omega arith) in
    rw no (ap (λ l. count ∷ l) (less_there point counts at d (later point count counts at d is) not_one))

pub no_place : (point : ℕ) (counts : List Count) → position (is_at point) counts ≡ None → find (is_at point) counts ≡ None
no_place point counts none = find_none (is_at point) counts (position_or_len (is_at point) counts) refl (past (nat_lt (position_or_len (is_at point) counts) (length counts)) refl none)
  where
    past : (b : Bool) → nat_lt (position_or_len (is_at point) counts) (length counts) ≡ b → cond b (Some (position_or_len (is_at point) counts)) None ≡ None → length counts ≤ position_or_len (is_at point) counts
    past true is h = absurd cc
    past false is h = grind (arith, nat_tests)

pub is_placed : (point : ℕ) (counts : List Count) (found : Option ℕ) → found ≡ position (is_at point) counts → 1 ≤ number_at point counts → IsSome found
is_placed point counts None is some = let none = ap number_in (no_place point counts (sym is)) in absurd (omega arith)
is_placed point counts (Some at) is some = search rules

pub some_there : (counts : List Count) (i : ℕ) (d : Count) → AreCounts counts → i < length counts → 1 ≤ (get_or counts i d).number
some_there [] i d each lt = absurd (omega arith)
some_there (count ∷ counts) zero d each lt = each.0
some_there (count ∷ counts) (suc i) d each lt = some_there counts i d each.2 (omega arith)

pub few_there : (counts : List Count) (i : ℕ) (d : Count) → i < length counts → (get_or counts i d).number ≤ total counts
few_there [] i d lt = absurd (omega arith)
few_there (count ∷ counts) zero d lt = omega arith
few_there (count ∷ counts) (suc i) d lt = let rest = few_there counts i d (omega arith) in omega arith

pub length_few : (counts : List Count) → AreCounts counts → length counts ≤ total counts
length_few [] each = omega arith
length_few (count ∷ counts) each = let rest = length_few counts each.2 in let some = each.0 in omega arith

-- ---- how many there are at each point

abbrev pub one_at : ℕ → ℕ → ℕ
one_at point other = if point == other then 1 else 0

same_of : (a b : ℕ) → a == b ≡ true → a ≡ b
same_of a b is = (Decides-eqb a b).0 is

itself : (a : ℕ) → a == a ≡ true
itself a = grind arith

-- a count that is at one point and not at another tells them apart
differ : (count : Count) (point other : ℕ) (e : Bool) → point == other ≡ e → is_at point count ≡ false → is_at other count ≡ true → point == other ≡ false
differ count point other true same here there = absurd (true≢false (sym there ∙ ap (λ n. count.point == n) (sym (same_of point other same)) ∙ here))
differ count point other false apart here there = apart

other_way : (count : Count) (point : ℕ) (e : Bool) → point == count.point ≡ e → is_at point count ≡ false → point == count.point ≡ false
other_way count point true same here = absurd (true≢false (sym (ap (λ n. n == point) (sym (same_of point count.point same)) ∙ itself point) ∙ here))
other_way count point false apart here = apart

above : (n : ℕ) → 1 ≤ n → n == 1 ≡ false → 1 ≤ n - 1
above n le differs = grind (arith, nat_tests)

pub number_more : (point other : ℕ) (counts : List Count) → number_at other (one_more point counts) ≡ number_at other counts + one_at point other
number_more point other [] = split (point == other)
  where
    split : (b : Bool) → number_in (cond b (Some (record { point = point; number = 1 })) None) ≡ 0 + (if b then 1 else 0)
    split true = refl
    split false = refl
number_more point other (count ∷ counts) = split (is_at point count) (is_at other count) refl refl (number_more point other counts)
  where
    split : (b c : Bool) → is_at point count ≡ b → is_at other count ≡ c → number_at other (one_more point counts) ≡ number_at other counts + one_at point other
        → number_at other (cond b (more count ∷ counts) (count ∷ one_more point counts)) ≡ number_at other (count ∷ counts) + one_at point other
    split true true here there rest =
        let same : point == other ≡ true = ap (λ n. n == other) (sym (same_of count.point point here)) ∙ there in
        rw (there, same) refl
    split true false here there rest =
        let apart : point == other ≡ false = ap (λ n. n == other) (sym (same_of count.point point here)) ∙ there in
        rw (there, apart) (omega arith)
    split false true here there rest =
        let apart : point == other ≡ false = differ count point other (point == other) refl here there in
        rw (there, apart) (omega arith)
    split false false here there rest = rw there rest

pub number_less : (point other : ℕ) (counts : List Count) → AreCounts counts → 1 ≤ number_at point counts → number_at other (one_less point counts) + one_at point other ≡ number_at other counts
number_less point other [] each some = absurd (omega arith)
number_less point other (count ∷ counts) each some = split (is_at point count) (is_at other count) refl refl some (λ also. number_less point other counts each.2 also)
  where
    removed : (e : Bool) → count.number == 1 ≡ e → is_at other count ≡ true → number_at other counts ≡ 0 → number_at other (cond e counts (fewer count ∷ counts)) + 1 ≡ count.number
    removed true one there none = let is = same_of count.number 1 one in rw none (omega arith)
    removed false one there none = let positive = each.0 in rw there (omega arith)

    kept : (e : Bool) → is_at other count ≡ false → number_at other (cond e counts (fewer count ∷ counts)) ≡ number_at other counts
    kept true there = refl
    kept false there = rw there refl

    split : (b c : Bool) → is_at point count ≡ b → is_at other count ≡ c → 1 ≤ number_in (cond (is_at point count) (Some count) (find (is_at point) counts)) → (1 ≤ number_at point counts → number_at other (one_less point counts) + one_at point other ≡ number_at other counts)
        → number_at other (cond b (less count counts) (count ∷ one_less point counts)) + one_at point other ≡ number_in (cond c (Some count) (find (is_at other) counts))
    split true true here there some rest =
        let same : point == other ≡ true = ap (λ n. n == other) (sym (same_of count.point point here)) ∙ there in
        let none : number_at other counts ≡ 0 = subst (λ (n : ℕ). number_at n counts ≡ 0) (same_of count.point other there) each.1 in
        rw same (removed (count.number == 1) refl there none)
    split true false here there some rest =
        let apart : point == other ≡ false = ap (λ n. n == other) (sym (same_of count.point point here)) ∙ there in
        let same = kept (count.number == 1) there in
        rw apart (omega arith)
    split false true here there some rest =
        let apart : point == other ≡ false = differ count point other (point == other) refl here there in
        rw (there, apart) (omega arith)
    split false false here there some rest = rw there (rest (rw here at some))

-- ---- what holds of them stays

pub total_more : (point : ℕ) (counts : List Count) → total (one_more point counts) ≡ total counts + 1
total_more point [] = refl
total_more point (count ∷ counts) = split (is_at point count) (total_more point counts)
  where
    split : (b : Bool) → total (one_more point counts) ≡ total counts + 1 → total (cond b (more count ∷ counts) (count ∷ one_more point counts)) ≡ count.number + total counts + 1
    split true rest = omega arith
    split false rest = omega arith

pub total_less : (point : ℕ) (counts : List Count) → total (one_less point counts) ≤ total counts
total_less point [] = omega arith
total_less point (count ∷ counts) = split (is_at point count) (count.number == 1) (total_less point counts)
  where
    split : (b c : Bool) → total (one_less point counts) ≤ total counts → total (cond b (cond c counts (fewer count ∷ counts)) (count ∷ one_less point counts)) ≤ count.number + total counts
    split true true rest = omega arith
    split true false rest = omega arith
    split false c rest = omega arith

cut : (n : ℕ) → 1 ≤ n → n == 1 ≡ true → n ≡ 1
cut n le one = same_of n 1 one

pub total_one_less : (point : ℕ) (counts : List Count) → AreCounts counts → 1 ≤ number_at point counts → total (one_less point counts) + 1 ≡ total counts
total_one_less point [] each some = absurd (omega arith)
total_one_less point (count ∷ counts) each some = split (is_at point count) refl (λ also. total_one_less point counts each.2 also)
  where
    last : (c : Bool) → count.number == 1 ≡ c → total (cond c counts (fewer count ∷ counts)) + 1 ≡ count.number + total counts
    last true one = let is = cut count.number each.0 one in omega arith
    last false more_than = let positive = each.0 in omega arith

    split : (b : Bool) → is_at point count ≡ b → (1 ≤ number_at point counts → total (one_less point counts) + 1 ≡ total counts) → total (cond b (less count counts) (count ∷ one_less point counts)) + 1 ≡ count.number + total counts
    split true here rest = last (count.number == 1) refl
    split false here rest = let more = rest (rw here at some) in omega arith

pub counts_more : (point : ℕ) (counts : List Count) → AreCounts counts → AreCounts (one_more point counts)
counts_more point [] each = (omega arith, refl, tt)
counts_more point (count ∷ counts) each = split (is_at point count) refl (counts_more point counts each.2)
  where
    split : (b : Bool) → is_at point count ≡ b → AreCounts (one_more point counts) → AreCounts (cond b (more count ∷ counts) (count ∷ one_more point counts))
    split true here rest = let some = each.0 in (omega arith, each.1, each.2)
    split false here rest =
        let apart : point == count.point ≡ false = other_way count point (point == count.point) refl here in
        (each.0, number_more point count.point counts ∙ rw (apart, each.1) refl, rest)

pub counts_less : (point : ℕ) (counts : List Count) → AreCounts counts → 1 ≤ number_at point counts → AreCounts (one_less point counts)
counts_less point [] each some = tt
counts_less point (count ∷ counts) each some = split (is_at point count) refl (λ also. counts_less point counts each.2 also)
  where
    last : (c : Bool) → count.number == 1 ≡ c → AreCounts (cond c counts (fewer count ∷ counts))
    last true one = each.2
    last false more_than = (above count.number each.0 more_than, each.1, each.2)

    split : (b : Bool) → is_at point count ≡ b → (1 ≤ number_at point counts → AreCounts (one_less point counts)) → AreCounts (cond b (less count counts) (count ∷ one_less point counts))
    split true here rest = last (count.number == 1) refl
    split false here rest =
        let also : 1 ≤ number_at point counts = rw here at some in
        let same = number_less point count.point counts each.2 also in
        let none = each.1 in
        (each.0, omega arith, rest also)
