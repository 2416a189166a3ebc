-- Lists that grow at their ends, and properties of each element.
use Rattle.std.proofs.Common.{◌≡◌, ℕ, zero, suc, List, [], ◌∷◌, ◌++◌, map, set, length, slice_get, Some, refl, ap, arith}
use Rattle.std.specs.List.{AllByRecursion}
use Rattle.std.proofs.lemmas.List.{length-append}

-- PLACES

pub get_before : {X : Type 0} (xs ys : List X) (i : ℕ) (x : X) → slice_get xs i ≡ Some x → slice_get (xs ++ ys) i ≡ Some x
get_before [] ys i x at = absurd (let e = at in cc)
get_before (y ∷ xs) ys zero x at = at
get_before (y ∷ xs) ys (suc i) x at = get_before xs ys i x at

pub set_before : {X : Type 0} (xs ys : List X) (i : ℕ) (x y : X) → slice_get xs i ≡ Some x → set (xs ++ ys) i y ≡ set xs i y ++ ys
set_before [] ys i x y at = absurd (let e = at in cc)
set_before (z ∷ xs) ys zero x y at = refl
set_before (z ∷ xs) ys (suc i) x y at = ap (λ l. z ∷ l) (set_before xs ys i x y at)

pub get_next : {X : Type 0} (done : List X) (x : X) (rest : List X) → slice_get (done ++ x ∷ rest) (length done) ≡ Some x
get_next [] x rest = refl
get_next (y ∷ done) x rest = get_next done x rest

pub set_next : {X : Type 0} (done : List X) (x y : X) (rest : List X) → set (done ++ x ∷ rest) (length done) y ≡ done ++ y ∷ rest
set_next [] x y rest = refl
set_next (z ∷ done) x y rest = ap (λ l. z ∷ l) (set_next done x y rest)

pub one_longer : {X : Type 0} (xs : List X) (x : X) → length (xs ++ x ∷ []) ≡ suc (length xs)
one_longer xs x = let e = length-append xs (x ∷ []) in omega arith

-- EACH ELEMENT

pub all_both : {X : Type 0} (P : X → Type 0) (xs ys : List X) → AllByRecursion P xs → AllByRecursion P ys → AllByRecursion P (xs ++ ys)
all_both P [] ys first next = next
all_both P (x ∷ xs) ys first next = (first.0, all_both P xs ys first.1 next)

pub all_set : {X : Type 0} (P : X → Type 0) (xs : List X) (i : ℕ) (y : X) → AllByRecursion P xs → P y → AllByRecursion P (set xs i y)
all_set P [] i y all holds = tt
all_set P (x ∷ xs) zero y all holds = (holds, all.1)
all_set P (x ∷ xs) (suc i) y all holds = (all.0, all_set P xs i y all.1 holds)

pub all_more : {X : Type 0} (P Q : X → Type 0) → ((x : X) → P x → Q x) → (xs : List X) → AllByRecursion P xs → AllByRecursion Q xs
all_more P Q more [] all = tt
all_more P Q more (x ∷ xs) all = (more x all.0, all_more P Q more xs all.1)

pub all_mapped : {X Y : Type 0} (P : X → Type 0) (Q : Y → Type 0) (f : X → Y) → ((x : X) → P x → Q (f x)) → (xs : List X) → AllByRecursion P xs → AllByRecursion Q (map f xs)
all_mapped P Q f makes [] all = tt
all_mapped P Q f makes (x ∷ xs) all = (makes x all.0, all_mapped P Q f makes xs all.1)
