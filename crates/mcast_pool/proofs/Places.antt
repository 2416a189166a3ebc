-- Groups by their indexes in a list.
use Rattle.std.proofs.Common.{◌≡◌, ◌<◌, ◌≤◌, ℕ, ◌==◌, ◌&&◌, ◌||◌, Bool, true, false, true≢false, cond, List, [], ◌∷◌, ◌++◌, length, map, take, drop, get_or, set, find, Option, Some, None, zero, suc, refl, sym, ap, subst, ◌∙◌, nat_lt, is_some, arith, rules}
use Rattle.std.specs.List.{list_any, position, position_or_len, remove}
use Rattle.std.specs.Option.{IsSome}
use Rattle.std.proofs.lemmas.Bool.Decides.{nat_tests, Decides-eqb}
use Rattle.std.proofs.lemmas.List.Quantifiers.{position-Some}
use Rattle.cip_types.specs.Indices.{Mapped, mapped_at, map_done, written_back, find_none}
use Rattle.mcast_pool.specs.declared.group.Group.{Group}
use Rattle.mcast_pool.specs.Groups.{has_number, number_of, numbered, is_like, serves, index_for, joined_group, change_first, left, one_less, subscribers, AreGroups, FitsGroup}

-- the first that passes has this index
pub record IsFirst (test : Group → Bool) (groups : List Group) (at : ℕ) (d : Group) : Type 0 where
  pub within : at < length groups
  pub passes : test (get_or groups at d) ≡ true
  pub fails : (k : ℕ) → k < at → test (get_or groups k d) ≡ false

pub first_at : (test : Group → Bool) (groups : List Group) (at : ℕ) (d : Group) → position test groups ≡ Some at → IsFirst test groups at d
first_at test groups at d is = let p = position-Some test groups at d is in record { within = p.0; passes = p.1; fails = p.2 }

later : (test : Group → Bool) (group : Group) (groups : List Group) (at : ℕ) (d : Group) → IsFirst test (group ∷ groups) (suc at) d → IsFirst test groups at d
later test group groups at d is = let lt = is.within in record { within = omega arith; passes = is.passes; fails = λ k below. is.fails (suc k) (omega arith) }

pub changed_there : (test : Group → Bool) (change : Group → Group) (groups : List Group) (at : ℕ) (d : Group) → IsFirst test groups at d → set groups at (change (get_or groups at d)) ≡ change_first test change groups
changed_there test change [] at d is = refl
changed_there test change (group ∷ groups) zero d is = rw is.passes refl
changed_there test change (group ∷ groups) (suc at) d is =
    let no : test group ≡ false = is.fails 0 (omega arith) in
    rw no (ap (λ l. group ∷ l) (changed_there test change groups at d (later test group groups at d is)))

-- the same, of what has been made of the group at the index
pub change_at : (test : Group → Bool) (change : Group → Group) (groups : List Group) (at : ℕ) (group new : Group) → position test groups ≡ Some at → group ≡ get_or groups at group → new ≡ change group → set groups at new ≡ change_first test change groups
change_at test change groups at group new found there is =
    ap (set groups at) (is ∙ ap change there) ∙ changed_there test change groups at group (first_at test groups at group found)

pub found_there : (test : Group → Bool) (groups : List Group) (at : ℕ) (d : Group) → IsFirst test groups at d → find test groups ≡ Some (get_or groups at d)
found_there test [] at d is = let lt = is.within in absurd (omega arith)
found_there test (group ∷ groups) zero d is = rw is.passes refl
found_there test (group ∷ groups) (suc at) d is =
    let no : test group ≡ false = is.fails 0 (omega arith) in
    rw no (found_there test groups at d (later test group groups at d is))

-- a group of a single connection is removed
pub removed_there : (number : ℕ) (groups : List Group) (at : ℕ) (d : Group) → IsFirst (has_number number) groups at d → (get_or groups at d).subscribers == 1 ≡ true → remove groups at ≡ left number groups
removed_there number [] at d is one = let lt = is.within in absurd (omega arith)
removed_there number (group ∷ groups) zero d is one = rw (is.passes, one) refl
removed_there number (group ∷ groups) (suc at) d is one =
    let no : has_number number group ≡ false = is.fails 0 (omega arith) in
    rw no (ap (λ l. group ∷ l) (removed_there number groups at d (later (has_number number) group groups at d is) one))

-- another one stays
pub less_there : (number : ℕ) (groups : List Group) (at : ℕ) (d : Group) → IsFirst (has_number number) groups at d → (get_or groups at d).subscribers == 1 ≡ false → set groups at (one_less (get_or groups at d)) ≡ left number groups
less_there number [] at d is more = refl
less_there number (group ∷ groups) zero d is more = rw (is.passes, more) refl
less_there number (group ∷ groups) (suc at) d is more =
    let no : has_number number group ≡ false = is.fails 0 (omega arith) in
    rw no (ap (λ l. group ∷ l) (less_there number groups at d (later (has_number number) group groups at d is) more))

-- WHETHER THERE IS A PLACE

pub no_place : (test : Group → Bool) (groups : List Group) → position test groups ≡ None → find test groups ≡ None
no_place test groups none = find_none test groups (position_or_len test groups) refl (past (nat_lt (position_or_len test groups) (length groups)) refl none)
  where
    past : (b : Bool) → nat_lt (position_or_len test groups) (length groups) ≡ b → cond b (Some (position_or_len test groups)) None ≡ None → length groups ≤ position_or_len test groups
    past true is h = absurd cc
    past false is h = grind (arith, nat_tests)

pub is_placed : (test : Group → Bool) (groups : List Group) (found : Option ℕ) → found ≡ position test groups → is_some (find test groups) ≡ true → IsSome found
is_placed test groups None is some = let none = no_place test groups (sym is) in absurd cc
is_placed test groups (Some at) is some = search rules

pub not_joined : (shared : Bool) (point : ℕ) (groups : List Group) → index_for shared point groups ≡ None → joined_group shared point groups ≡ None
not_joined false point groups is = refl
not_joined true point groups is = no_place (serves point) groups is

pub joined_at : (shared : Bool) (point : ℕ) (groups : List Group) (at : ℕ) → index_for shared point groups ≡ Some at → position (serves point) groups ≡ Some at
joined_at false point groups at is = absurd cc
joined_at true point groups at is = is

pub joined_found : (shared : Bool) (point : ℕ) (groups : List Group) (at : ℕ) (d : Group) → index_for shared point groups ≡ Some at → joined_group shared point groups ≡ Some (get_or groups at d)
joined_found false point groups at d is = absurd cc
joined_found true point groups at d is = found_there (serves point) groups at d (first_at (serves point) groups at d is)

-- WHAT HOLDS AT A PLACE

pub fits_index : (groups : List Group) (i : ℕ) (d : Group) → AreGroups groups → i < length groups → FitsGroup (get_or groups i d)
fits_index [] i d each lt = absurd (omega arith)
fits_index (group ∷ groups) zero d each lt = each.0
fits_index (group ∷ groups) (suc i) d each lt = fits_index groups i d each.3 (omega arith)

pub serves_index : (groups : List Group) (i : ℕ) (d : Group) → AreGroups groups → i < length groups → 1 ≤ (get_or groups i d).subscribers
serves_index [] i d each lt = absurd (omega arith)
serves_index (group ∷ groups) zero d each lt = each.1
serves_index (group ∷ groups) (suc i) d each lt = serves_index groups i d each.3 (omega arith)

pub few_index : (groups : List Group) (i : ℕ) (d : Group) → i < length groups → (get_or groups i d).subscribers ≤ subscribers groups
few_index [] i d lt = absurd (omega arith)
few_index (group ∷ groups) zero d lt = omega arith
few_index (group ∷ groups) (suc i) d lt = let rest = few_index groups i d (omega arith) in omega arith

-- one that a loop over the groups has not changed yet is within the limits
pub fits_mapped : (change : Group → Group) (xs ys : List Group) (i : ℕ) (d : Group) → AreGroups xs → i < length xs → length ys ≡ length xs → Mapped change xs ys i → FitsGroup (get_or ys i d)
fits_mapped change xs ys i d each lt same mapped = subst FitsGroup (sym (mapped_at change xs ys i d lt same mapped)) (fits_index xs i d each lt)

-- the groups that a loop has changed, written back over their vector
pub mapped_back : (change : Group → Group) (n : ℕ) (xs old new : List Group) (i : ℕ) → old ≡ xs → length old ≡ n → length old ≤ i → length new ≡ length old → Mapped change old new i → take n (new ++ drop (length new) xs) ≡ map change xs
mapped_back change n xs old new i same long le kept mapped =
    written_back n xs new (kept ∙ long) ∙ map_done change old new i le kept mapped ∙ ap (map change) same

-- NUMBERS

same_number : (number : ℕ) (group : Group) → has_number number group ≡ true → number_of group ≡ number
same_number number group is = (Decides-eqb (number_of group) number).0 is

none_there : (test : Group → Bool) (groups : List Group) (i : ℕ) (d : Group) → list_any test groups ≡ false → i < length groups → test (get_or groups i d) ≡ false
none_there test [] i d none lt = absurd (omega arith)
none_there test (group ∷ groups) zero d none lt = split (test group) none
  where
    split : (b : Bool) → b || list_any test groups ≡ false → b ≡ false
    split true h = absurd (true≢false h)
    split false h = refl
none_there test (group ∷ groups) (suc i) d none lt = none_there test groups i d (split (test group) none) (omega arith)
  where
    split : (b : Bool) → b || list_any test groups ≡ false → list_any test groups ≡ false
    split true h = absurd (true≢false h)
    split false h = h

like_number : (a b c : Bool) → a || (b && c) ≡ false → a ≡ false
like_number true b c is = absurd (true≢false is)
like_number false b c is = refl

-- the group of a number has no other index
pub numbered_there : (number : ℕ) (groups : List Group) (i : ℕ) (d : Group) → AreGroups groups → i < length groups → has_number number (get_or groups i d) ≡ true → numbered number groups ≡ Some (get_or groups i d)
numbered_there number [] i d each lt has = absurd (omega arith)
numbered_there number (group ∷ groups) zero d each lt has = rw has refl
numbered_there number (group ∷ groups) (suc i) d each lt has = split (has_number number group) refl (numbered_there number groups i d each.3 (omega arith) has)
  where
    split : (b : Bool) → has_number number group ≡ b → numbered number groups ≡ Some (get_or groups i d) → cond (has_number number group) (Some group) (numbered number groups) ≡ Some (get_or groups i d)
    split true is there =
        let unlike = none_there (is_like group) groups i d each.2 (omega arith) in
        let other : has_number (number_of group) (get_or groups i d) ≡ false = like_number (has_number (number_of group) (get_or groups i d)) group.shared (serves group.producer.point (get_or groups i d)) unlike in
        absurd (true≢false (sym has ∙ ap (λ n. has_number n (get_or groups i d)) (sym (same_number number group is)) ∙ other))
    split false is there = rw is there

pub with_hint : (number : ℕ) (groups : List Group) (i : ℕ) (d : Group) (result : Bool) → AreGroups groups → i < length groups → result ≡ has_number number (get_or groups i d) → result ≡ true → Some (get_or groups i d) ≡ numbered number groups
with_hint number groups i d result each lt is has = sym (numbered_there number groups i d each lt (sym is ∙ has))

placed_there : (number : ℕ) (groups : List Group) (i : ℕ) (d : Group) → AreGroups groups → i < length groups → has_number number (get_or groups i d) ≡ true → position_or_len (has_number number) groups ≡ i
placed_there number [] i d each lt has = absurd (omega arith)
placed_there number (group ∷ groups) zero d each lt has = rw has refl
placed_there number (group ∷ groups) (suc i) d each lt has = split (has_number number group) refl (placed_there number groups i d each.3 (omega arith) has)
  where
    split : (b : Bool) → has_number number group ≡ b → position_or_len (has_number number) groups ≡ i → position_or_len (has_number number) (group ∷ groups) ≡ suc i
    split true is there =
        let unlike = none_there (is_like group) groups i d each.2 (omega arith) in
        let other : has_number (number_of group) (get_or groups i d) ≡ false = like_number (has_number (number_of group) (get_or groups i d)) group.shared (serves group.producer.point (get_or groups i d)) unlike in
        absurd (true≢false (sym has ∙ ap (λ n. has_number n (get_or groups i d)) (sym (same_number number group is)) ∙ other))
    split false is there = rw (is, there) (omega arith)

position_is : (test : Group → Bool) (groups : List Group) (i : ℕ) → position_or_len test groups ≡ i → i < length groups → position test groups ≡ Some i
position_is test groups i is lt =
    let within : nat_lt (position_or_len test groups) (length groups) ≡ true = grind (arith, nat_tests) in
    rw within (ap (λ (n : ℕ). Some n) is)

pub index_by_hint : (number : ℕ) (groups : List Group) (i : ℕ) (d : Group) (result : Bool) → AreGroups groups → i < length groups → result ≡ has_number number (get_or groups i d) → result ≡ true → Some i ≡ position (has_number number) groups
index_by_hint number groups i d result each lt is has = sym (position_is (has_number number) groups i (placed_there number groups i d each lt (sym is ∙ has)) lt)
