-- Lists: what is found, what is set at one place, and what is counted.
use Rattle.std.proofs.Common.{◌≡◌, ◌≢◌, ℕ, zero, suc, ◌+◌, Bool, true, false, cond, List, [], ◌∷◌, ◌++◌, set, find, slice_get, Option, Some, refl, sym, ap, subst}
use Rattle.std.proofs.lemmas.Option.{same_Some}
use Rattle.std.proofs.lemmas.List.Sums.{sum_by-cons, sum_by-append}
use Rattle.std.specs.List.{count_by}

-- ---- what is found

found_step : {X : Type 0} → (b : Bool) (p : X → Bool) (first x : X) (rest : Option X) → p first ≡ b → cond b (Some first) rest ≡ Some x → (rest ≡ Some x → p x ≡ true) → p x ≡ true
found_step true p first x rest holds is more = subst (λ y. p y ≡ true) (same_Some first x is) holds
found_step false p first x rest holds is more = more is

-- what a search finds passes its test
pub found_passes : {X : Type 0} → (p : X → Bool) (xs : List X) (x : X) → find p xs ≡ Some x → p x ≡ true
found_passes p [] x is = absurd cc
found_passes p (first ∷ rest) x is = found_step (p first) p first x (find p rest) refl is (λ later. found_passes p rest x later)

-- ---- one place is set

pub set_own : {X : Type 0} → (xs : List X) (i : ℕ) (x y : X) → slice_get xs i ≡ Some x → slice_get (set xs i y) i ≡ Some y
set_own [] i x y is = absurd cc
set_own (first ∷ rest) zero x y is = refl
set_own (first ∷ rest) (suc i) x y is = set_own rest i x y is

pub set_other : {X : Type 0} → (xs : List X) (i j : ℕ) (y : X) → j ≢ i → slice_get (set xs i y) j ≡ slice_get xs j
set_other [] i j y other = refl
set_other (first ∷ rest) zero zero y other = absurd (other refl)
set_other (first ∷ rest) zero (suc j) y other = refl
set_other (first ∷ rest) (suc i) zero y other = refl
set_other (first ∷ rest) (suc i) (suc j) y other = set_other rest i j y (λ same. other (ap suc same))

pub set_same : {X : Type 0} → (xs : List X) (i : ℕ) (x : X) → slice_get xs i ≡ Some x → set xs i x ≡ xs
set_same [] i x is = refl
set_same (first ∷ rest) zero x is = ap (λ y. y ∷ rest) (sym (same_Some first x is))
set_same (first ∷ rest) (suc i) x is = ap (λ ys. first ∷ ys) (set_same rest i x is)

-- ---- what is counted

pub count_cons : {X : Type 0} → (p : X → Bool) (x : X) (xs : List X) → count_by p (x ∷ xs) ≡ cond (p x) 1 0 + count_by p xs
count_cons p x xs = sum_by-cons (λ y. cond (p y) 1 0) x xs

pub count_both : {X : Type 0} → (p : X → Bool) (xs ys : List X) → count_by p (xs ++ ys) ≡ count_by p xs + count_by p ys
count_both p xs ys = sum_by-append (λ y. cond (p y) 1 0) xs ys
