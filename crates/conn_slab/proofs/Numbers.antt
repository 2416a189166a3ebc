-- The groups of a pool by their numbers, once a connection has joined or left.
use Rattle.std.proofs.Common.{◌≡◌, ◌≤◌, ℕ, ◌+◌, ◌==◌, ◌&&◌, ◌||◌, Bool, true, false, cond, if◌then◌else◌, List, [], ◌∷◌, ◌++◌, find, Option, Some, None, is_some, refl, sym, ap, subst, ◌∙◌, true≢false, arith}
use Rattle.std.specs.List.{list_any}
use Rattle.std.specs.Option.{option_map}
use Rattle.std.proofs.lemmas.Bool.Decides.{Decides-eqb}
use Rattle.mcast_pool.specs.declared.group.Group.{Group}
use Rattle.mcast_pool.specs.Groups.{has_number, number_of, numbered, serves, is_like, one_more, one_less, change_first, rest_of, left, subscribers, AreGroups}

pub some_same : {X : Type 0} {a b : X} → Some a ≡ Some b → a ≡ b
some_same e = cc

pub same_of : (a b : ℕ) → a == b ≡ true → a ≡ b
same_of a b is = (Decides-eqb a b).0 is

pub itself : (a : ℕ) → a == a ≡ true
itself a = grind arith

pub other_way : (a b : ℕ) → a == b ≡ false → b == a ≡ false
other_way a b is = split (b == a) refl
  where
    split : (c : Bool) → b == a ≡ c → b == a ≡ false
    split true same = absurd (true≢false (sym (ap (λ n. a == n) (same_of b a same) ∙ itself a) ∙ is))
    split false differs = differs

either : (a b : Bool) → a || b ≡ false → (a ≡ false) × (b ≡ false)
either true b is = absurd (true≢false is)
either false b is = (refl, is)

pub both_hold : (a b : Bool) → a && b ≡ true → (a ≡ true) × (b ≡ true)
both_hold true b is = (refl, is)
both_hold false b is = absurd (true≢false (sym is))

-- what is found passes
pub found_passes : {X : Type 0} (test : X → Bool) (xs : List X) (x : X) → find test xs ≡ Some x → test x ≡ true
found_passes test [] x is = absurd cc
found_passes {X} test (y ∷ xs) x is = split (test y) refl (found_passes test xs x)
  where
    split : (b : Bool) → test y ≡ b → (find test xs ≡ Some x → test x ≡ true) → test x ≡ true
    split true passes rest = let same : y ≡ x = some_same (sym (ap (λ b. cond b (Some y) (find test xs)) passes) ∙ is) in ap test (sym same) ∙ passes
    split false fails rest = rest (sym (ap (λ b. cond b (Some y) (find test xs)) fails) ∙ is)

-- what none passes, the one that is found does not
pub found_fails : {X : Type 0} (test other : X → Bool) (xs : List X) (x : X) → list_any test xs ≡ false → find other xs ≡ Some x → test x ≡ false
found_fails test other [] x none is = absurd cc
found_fails {X} test other (y ∷ xs) x none is =
    let parts = either (test y) (list_any test xs) none in
    split (other y) refl parts (found_fails test other xs x parts.1)
  where
    split : (b : Bool) → other y ≡ b → (test y ≡ false) × (list_any test xs ≡ false) → (find other xs ≡ Some x → test x ≡ false) → test x ≡ false
    split true passes parts rest = let same : y ≡ x = some_same (sym (ap (λ b. cond b (Some y) (find other xs)) passes) ∙ is) in ap test (sym same) ∙ parts.0
    split false fails parts rest = rest (sym (ap (λ b. cond b (Some y) (find other xs)) fails) ∙ is)

-- one that is found, and passes another test, is found by that, or one before it
pub found_too : {X : Type 0} (test other : X → Bool) (xs : List X) (x : X) → find test xs ≡ Some x → other x ≡ true → find other xs ≡ None → ⊥
found_too test other [] x is passes none = absurd cc
found_too {X} test other (y ∷ xs) x is passes none = split (test y) (other y) refl refl (found_too test other xs x)
  where
    split : (b c : Bool) → test y ≡ b → other y ≡ c → (find test xs ≡ Some x → other x ≡ true → find other xs ≡ None → ⊥) → ⊥
    split b true at here rest = let some : find other (y ∷ xs) ≡ Some y = ap (λ b. cond b (Some y) (find other xs)) here in absurd cc
    split true false at here rest =
        let same : y ≡ x = some_same (sym (ap (λ b. cond b (Some y) (find test xs)) at) ∙ is) in
        true≢false (sym passes ∙ ap other (sym same) ∙ here)
    split false false at here rest = rest (sym (ap (λ b. cond b (Some y) (find test xs)) at) ∙ is) passes (sym (ap (λ b. cond b (Some y) (find other xs)) here) ∙ none)

unlike_number : (group other : Group) → is_like group other ≡ false → number_of other == number_of group ≡ false
unlike_number group other is = (either (has_number (number_of group) other) (group.shared && serves group.producer.point other) is).0

-- a group is found by its number
pub found_by_number : (test : Group → Bool) (groups : List Group) (group : Group) → AreGroups groups → find test groups ≡ Some group → numbered (number_of group) groups ≡ Some group
found_by_number test [] group each is = absurd cc
found_by_number test (other ∷ groups) group each is = split (test other) refl (found_by_number test groups group each.3)
  where
    here : (b : Bool) → has_number (number_of group) other ≡ b → find test groups ≡ Some group → numbered (number_of group) groups ≡ Some group → numbered (number_of group) (other ∷ groups) ≡ Some group
    here true same found later =
        let differs = unlike_number other group (found_fails (is_like other) test groups group each.2 found) in
        absurd (true≢false (sym same ∙ other_way (number_of group) (number_of other) differs))
    here false differs found later = rw differs later

    split : (b : Bool) → test other ≡ b → (find test groups ≡ Some group → numbered (number_of group) groups ≡ Some group) → numbered (number_of group) (other ∷ groups) ≡ Some group
    split true passes rest =
        let same : other ≡ group = some_same (sym (ap (λ b. cond b (Some other) (find test groups)) passes) ∙ is) in
        ap (λ b. cond b (Some other) (numbered (number_of group) groups)) (ap (λ g. number_of g == number_of group) same ∙ itself (number_of group)) ∙ ap (λ g. Some g) same
    split false fails rest =
        let found = sym (ap (λ b. cond b (Some other) (find test groups)) fails) ∙ is in
        here (has_number (number_of group) other) refl found (rest found)

-- ---- one more connection for the group that is found

pub numbered_more : (test : Group → Bool) (groups : List Group) (group : Group) → AreGroups groups → find test groups ≡ Some group → (number : ℕ)
    → numbered number (change_first test one_more groups) ≡ (if number_of group == number then option_map one_more (numbered number groups) else numbered number groups)
numbered_more test [] group each is number = absurd cc
numbered_more test (other ∷ groups) group each is number = split (test other) refl (λ found. numbered_more test groups group each.3 found number)
  where
    changed : (b : Bool) → number_of other == number ≡ b → other ≡ group → cond (number_of other == number) (Some (one_more other)) (numbered number groups) ≡ (if number_of group == number then option_map one_more (cond (number_of other == number) (Some other) (numbered number groups)) else cond (number_of other == number) (Some other) (numbered number groups))
    changed true at same = rw (← same) (rw at refl)
    changed false at same = rw (← same) (rw at refl)

    later : (b c : Bool) → number_of other == number ≡ b → number_of group == number ≡ c → find test groups ≡ Some group
        → numbered number (change_first test one_more groups) ≡ (if c then option_map one_more (numbered number groups) else numbered number groups)
        → cond b (Some other) (numbered number (change_first test one_more groups)) ≡ (if c then option_map one_more (cond b (Some other) (numbered number groups)) else cond b (Some other) (numbered number groups))
    later true true at there found rest =
        let differs = unlike_number other group (found_fails (is_like other) test groups group each.2 found) in
        absurd (true≢false (sym (ap (λ n. n == number_of other) (same_of (number_of group) number there ∙ sym (same_of (number_of other) number at)) ∙ itself (number_of other)) ∙ differs))
    later true false at there found rest = refl
    later false c at there found rest = rest

    split : (b : Bool) → test other ≡ b → (find test groups ≡ Some group → numbered number (change_first test one_more groups) ≡ (if number_of group == number then option_map one_more (numbered number groups) else numbered number groups))
        → numbered number (cond b (one_more other ∷ groups) (other ∷ change_first test one_more groups)) ≡ (if number_of group == number then option_map one_more (numbered number (other ∷ groups)) else numbered number (other ∷ groups))
    split true passes rest =
        let same : other ≡ group = some_same (sym (ap (λ b. cond b (Some other) (find test groups)) passes) ∙ is) in
        changed (number_of other == number) refl same
    split false fails rest =
        let found = sym (ap (λ b. cond b (Some other) (find test groups)) fails) ∙ is in
        later (number_of other == number) (number_of group == number) refl refl found (rest found)

pub sum_more : (test : Group → Bool) (groups : List Group) (group : Group) → find test groups ≡ Some group → subscribers (change_first test one_more groups) ≡ subscribers groups + 1
sum_more test [] group is = absurd cc
sum_more test (other ∷ groups) group is = split (test other) refl (sum_more test groups group)
  where
    split : (b : Bool) → test other ≡ b → (find test groups ≡ Some group → subscribers (change_first test one_more groups) ≡ subscribers groups + 1) → subscribers (cond b (one_more other ∷ groups) (other ∷ change_first test one_more groups)) ≡ other.subscribers + subscribers groups + 1
    split true passes rest = omega arith
    split false fails rest = let more = rest (sym (ap (λ b. cond b (Some other) (find test groups)) fails) ∙ is) in omega arith

-- ---- one group more

abbrev pub or_else : Option Group → Option Group → Option Group
or_else None other = other
or_else (Some group) other = Some group

pub numbered_begun : (groups : List Group) (new : Group) (number : ℕ) → numbered number (groups ++ new ∷ []) ≡ or_else (numbered number groups) (if number_of new == number then Some new else None)
numbered_begun [] new number = refl
numbered_begun (other ∷ groups) new number = split (number_of other == number) (numbered_begun groups new number)
  where
    split : (b : Bool) → numbered number (groups ++ new ∷ []) ≡ or_else (numbered number groups) (if number_of new == number then Some new else None) → cond b (Some other) (numbered number (groups ++ new ∷ [])) ≡ or_else (cond b (Some other) (numbered number groups)) (if number_of new == number then Some new else None)
    split true rest = refl
    split false rest = rest

pub sum_begun : (groups : List Group) (new : Group) → subscribers (groups ++ new ∷ []) ≡ subscribers groups + new.subscribers
sum_begun [] new = omega arith
sum_begun (group ∷ groups) new = let rest = sum_begun groups new in omega arith

-- ---- one connection less

abbrev pub left_one : Option Group → Option Group
left_one None = None
left_one (Some group) = if group.subscribers == 1 then None else Some (one_less group)

-- groups that are unlike one have other numbers
pub unlike_none : (group : Group) (groups : List Group) → list_any (is_like group) groups ≡ false → numbered (number_of group) groups ≡ None
unlike_none group [] none = refl
unlike_none group (other ∷ groups) none =
    let parts = either (is_like group other) (list_any (is_like group) groups) none in
    rw (unlike_number group other parts.0) (unlike_none group groups parts.1)

pub numbered_left : (number : ℕ) (groups : List Group) → AreGroups groups → numbered number (left number groups) ≡ left_one (numbered number groups)
numbered_left number [] each = refl
numbered_left number (group ∷ groups) each = split (has_number number group) refl (numbered_left number groups each.3)
  where
    rest_is : (c : Bool) → has_number number group ≡ true → numbered number groups ≡ None → numbered number (cond c groups (one_less group ∷ groups)) ≡ cond c None (Some (one_less group))
    rest_is true has none = none
    rest_is false has none = rw has refl

    split : (b : Bool) → has_number number group ≡ b → numbered number (left number groups) ≡ left_one (numbered number groups)
        → numbered number (cond b (rest_of group groups) (group ∷ left number groups)) ≡ left_one (cond b (Some group) (numbered number groups))
    split true has rest = rest_is (group.subscribers == 1) has (ap (λ n. numbered n groups) (sym (same_of (number_of group) number has)) ∙ unlike_none group groups each.2)
    split false has rest = rw has rest

pub numbered_other : (number other : ℕ) (groups : List Group) → other == number ≡ false → numbered other (left number groups) ≡ numbered other groups
numbered_other number other [] differs = refl
numbered_other number other (group ∷ groups) differs = split (has_number number group) refl (numbered_other number other groups differs)
  where
    apart : number_of group == number ≡ true → number_of group == other ≡ false
    apart is = rw (same_of (number_of group) number is) (other_way other number differs)

    rest_is : (c : Bool) → number_of group == other ≡ false → numbered other (cond c groups (one_less group ∷ groups)) ≡ numbered other (group ∷ groups)
    rest_is true fails = rw fails refl
    rest_is false fails = rw fails refl

    split : (b : Bool) → has_number number group ≡ b → numbered other (left number groups) ≡ numbered other groups → numbered other (cond b (rest_of group groups) (group ∷ left number groups)) ≡ numbered other (group ∷ groups)
    split true has rest = rest_is (group.subscribers == 1) (apart has)
    split false has rest = rw rest refl

pub sum_left : (number : ℕ) (groups : List Group) → AreGroups groups → is_some (numbered number groups) ≡ true → subscribers (left number groups) + 1 ≡ subscribers groups
sum_left number [] each some = absurd (true≢false (sym some))
sum_left number (group ∷ groups) each some = split (has_number number group) refl (sum_left number groups each.3)
  where
    rest_is : (c : Bool) → group.subscribers == 1 ≡ c → 1 ≤ group.subscribers → subscribers (cond c groups (one_less group ∷ groups)) + 1 ≡ group.subscribers + subscribers groups
    rest_is true one le = let is = same_of group.subscribers 1 one in omega arith
    rest_is false one le = omega arith

    split : (b : Bool) → has_number number group ≡ b → (is_some (numbered number groups) ≡ true → subscribers (left number groups) + 1 ≡ subscribers groups) → subscribers (cond b (rest_of group groups) (group ∷ left number groups)) + 1 ≡ group.subscribers + subscribers groups
    split true has rest = rest_is (group.subscribers == 1) refl each.1
    split false has rest = let more = rest (sym (ap (λ b. is_some (cond b (Some group) (numbered number groups))) has) ∙ some) in omega arith

-- each group has a connection
pub some_served : (number : ℕ) (groups : List Group) (group : Group) → AreGroups groups → numbered number groups ≡ Some group → 1 ≤ group.subscribers
some_served number [] group each is = absurd cc
some_served number (other ∷ groups) group each is = split (has_number number other) refl (some_served number groups group each.3)
  where
    split : (b : Bool) → has_number number other ≡ b → (numbered number groups ≡ Some group → 1 ≤ group.subscribers) → 1 ≤ group.subscribers
    split true has rest = let same : other ≡ group = some_same (sym (ap (λ b. cond b (Some other) (numbered number groups)) has) ∙ is) in subst (λ (g : Group). 1 ≤ g.subscribers) same each.1
    split false has rest = rest (sym (ap (λ b. cond b (Some other) (numbered number groups)) has) ∙ is)
