-- Truth values, numbers, and elements of lists.
use Rattle.std.proofs.Common.{◌≡◌, ◌≤◌, ◌<◌, ℕ, zero, suc, ◌+◌, ◌==◌, List, [], ◌∷◌, ◌++◌, length, map, take, drop, get_or, refl, ap, arith}
pub use Rattle.std.proofs.lemmas.Bool.{or_parts as or_false}
use Rattle.std.proofs.lemmas.Bool.Decides.{nat_tests}
pub use Rattle.base_lemmas.specs.Numbers.{number_same as numbered, same_by}

pub swapped : (a b : ℕ) → (a == b) ≡ (b == a)
swapped a b = grind (arith, nat_tests)

pub got_first : {X : Type 0} (front rest : List X) (x d : X) → get_or (front ++ x ∷ rest) (length front) d ≡ x
got_first [] rest x d = refl
got_first (next ∷ front) rest x d = got_first front rest x d

pub is_within : {X : Type 0} (front rest : List X) (x : X) → length front < length (front ++ x ∷ rest)
is_within [] rest x = omega arith
is_within (next ∷ front) rest x = omega (arith, is_within front rest x)

pub map_append : {X Y : Type 0} (f : X → Y) (xs ys : List X) → map f (xs ++ ys) ≡ map f xs ++ map f ys
map_append f [] ys = refl
map_append f (x ∷ xs) ys = ap (λ l. f x ∷ l) (map_append f xs ys)

pub drop_front : {X : Type 0} (front rest : List X) → drop (length front) (front ++ rest) ≡ rest
drop_front [] rest = refl
drop_front (x ∷ front) rest = drop_front front rest

pub length_append : {X : Type 0} (xs ys : List X) → length (xs ++ ys) ≡ length xs + length ys
length_append [] ys = omega arith
length_append (x ∷ xs) ys = omega (arith, length_append xs ys)

pub take_whole : {X : Type 0} (xs : List X) → take (length xs) xs ≡ xs
take_whole [] = refl
take_whole (x ∷ xs) = ap (λ l. x ∷ l) (take_whole xs)

pub length_take : {X : Type 0} (n : ℕ) (xs : List X) → n ≤ length xs → length (take n xs) ≡ n
length_take zero xs le = refl
length_take (suc n) [] le = absurd (omega arith)
length_take (suc n) (x ∷ xs) le = omega (arith, length_take n xs (omega arith))
