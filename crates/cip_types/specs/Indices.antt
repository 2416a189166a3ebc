-- Changes of each element of a list in place, one after another, and the first place that passes a test.
use Rattle.std.proofs.Common.{◌≡◌, ◌<◌, ◌≤◌, ℕ, ◌+◌, Bool, cond, not, List, [], ◌∷◌, ◌++◌, length, map, take, drop, get_or, set, Some, None, nat_lt, unwrap_or, find, slice_get, suc, drop-cons, sym, ◌∙◌, ap, arith}
use Rattle.std.specs.List.{position_or_len, position}
use Rattle.std.proofs.lemmas.Grind.{common_steps}
use Rattle.std.proofs.lemmas.Bool.Decides.{nat_tests}
use Rattle.std.proofs.lemmas.List.Sums.{prefix_len-le-length}
use Rattle.std.proofs.lemmas.List.Folds.{find_at}
use Rattle.std.proofs.lemmas.Option.{slice_get_past}

-- CHANGES IN PLACE

-- lists that agree from i on agree at i
same_at : {X : Type 0} (xs ys : List X) (i : ℕ) (d : X) → i < length xs → i < length ys → drop i ys ≡ drop i xs → get_or ys i d ≡ get_or xs i d
same_at xs ys i d lt lt' same =
    let a : drop i xs ≡ get_or xs i d ∷ drop (suc i) xs = drop-cons xs i d lt in
    let b : drop i ys ≡ get_or ys i d ∷ drop (suc i) ys = drop-cons ys i d lt' in
    cc

-- a loop that has changed each element up to i in place, from xs to ys
pub record Mapped {X : Type 0} (f : X → X) (xs ys : List X) (i : ℕ) : Type 0 where
  pub front : take i ys ≡ map f (take i xs)
  pub rest : drop i ys ≡ drop i xs

pub mapped_at : {X : Type 0} (f : X → X) (xs ys : List X) (i : ℕ) (d : X) → i < length xs → length ys ≡ length xs → Mapped f xs ys i → get_or ys i d ≡ get_or xs i d
mapped_at f xs ys i d lt same mapped = same_at xs ys i d lt (omega arith) mapped.rest

pub map_more : {X : Type 0} (f : X → X) (xs ys : List X) (i : ℕ) (d y : X) → i < length xs → length ys ≡ length xs → Mapped f xs ys i → y ≡ f (get_or ys i d) → Mapped f xs (set ys i y) (i + 1)
map_more f xs ys i d y lt same mapped is =
    let at : get_or ys i d ≡ get_or xs i d = same_at xs ys i d lt (omega arith) mapped.rest in
    let front = mapped.front in
    let rest = mapped.rest in
    record { front = grind (arith, common_steps); rest = grind (arith, common_steps) }

pub map_done : {X : Type 0} (f : X → X) (xs ys : List X) (i : ℕ) → length xs ≤ i → length ys ≡ length xs → Mapped f xs ys i → ys ≡ map f xs
map_done f xs ys i le same mapped =
    let front = mapped.front in
    grind (arith, common_steps)

-- a slice of a whole vector, written back
pub written_back : {X : Type 0} (n : ℕ) (xs ys : List X) → length ys ≡ n → take n (ys ++ drop (length ys) xs) ≡ ys
written_back n xs ys len = grind (arith, common_steps)

-- what is pushed for one more element, by what is made of it in two steps
pub made_more : {X Y Z : Type 0} (g : Y → Z) (f : X → Y) (xs : List X) (i : ℕ) (d : X) (made new : List Z) (z : Z) → i < length xs → made ≡ map g (map f (take i xs)) → z ≡ g (f (get_or xs i d)) → new ≡ made ++ z ∷ [] → new ≡ map g (map f (take (i + 1) xs))
made_more g f xs i d made new z lt are is grown =
    let more : take (i + 1) xs ≡ take i xs ++ get_or xs i d ∷ [] = grind (arith, common_steps) in
    rw more (grind (arith, common_steps))

-- PLACES

place_or : (n m : ℕ) → n ≤ m → unwrap_or (cond (nat_lt n m) (Some n) None) m ≡ n
place_or n m le = grind (arith, nat_tests)

pub position_or : {X : Type 0} (p : X → Bool) (xs : List X) → unwrap_or (position p xs) (length xs) ≡ position_or_len p xs
position_or p xs = place_or _ _ (prefix_len-le-length (λ x. not (p x)) xs)

pub place_bound : {X : Type 0} (p : X → Bool) (xs : List X) → position_or_len p xs ≤ length xs
place_bound p xs = prefix_len-le-length (λ x. not (p x)) xs

pub find_none : {X : Type 0} (p : X → Bool) (xs : List X) (n : ℕ) → n ≡ position_or_len p xs → length xs ≤ n → find p xs ≡ None
find_none p xs n is le = find_at p xs ∙ ap (slice_get xs) (sym is) ∙ slice_get_past xs n le
