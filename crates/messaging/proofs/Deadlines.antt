-- The first deadline of connections, and of requests.
use Rattle.std.proofs.Common.{◌≡◌, ◌<◌, ◌≤◌, ℕ, min, List, [], ◌∷◌, drop, drop-cons, get_or, length, zero, suc, refl, ap, arith}
use Rattle.messaging.specs.Times.{first_of, no_moment}

first_within : {A : Type 0} (moment : A → ℕ) (xs : List A) → first_of moment xs ≤ no_moment
first_within moment [] = omega arith
first_within moment (x ∷ xs) = let le = first_within moment xs in omega (arith, le)

-- the first so far, and those from a place on, give the first of all
pub record IsFirst {A : Type 0} (moment : A → ℕ) (first index : ℕ) (xs : List A) : Type 0 where
  pub so_far : min first (first_of moment (drop index xs)) ≡ first_of moment xs
  pub within : first ≤ no_moment

pub first_begins : {A : Type 0} (moment : A → ℕ) (xs : List A) → IsFirst moment no_moment 0 xs
first_begins moment xs = let le = first_within moment xs in record { so_far = omega (arith, le); within = omega arith }

pub first_more : {A : Type 0} (moment : A → ℕ) (first next index : ℕ) (xs : List A) (d : A) → index < length xs → next ≡ min first (moment (get_or xs index d)) → IsFirst moment first index xs → (more : ℕ) → more ≡ suc index → IsFirst moment next more xs
first_more moment first next index xs d within is so_far more same =
    let begins : first_of moment (drop index xs) ≡ min (moment (get_or xs index d)) (first_of moment (drop (suc index) xs)) = ap (first_of moment) (drop-cons xs index d within) in
    let here = so_far.so_far in
    let le = so_far.within in
    record { so_far = rw same (omega (arith, is, begins, here)); within = omega (arith, is, le) }

no_more : {A : Type 0} (index : ℕ) (xs : List A) → length xs ≤ index → drop index xs ≡ []
no_more zero [] le = refl
no_more (suc index) [] le = refl
no_more zero (x ∷ xs) le = absurd (omega (arith, le))
no_more (suc index) (x ∷ xs) le = no_more index xs (omega (arith, le))

least : (first all none : ℕ) → none ≡ no_moment → all ≤ no_moment → min first none ≡ all → first ≤ no_moment → first ≡ all
least first all none is within so_far le = omega (arith, is, within, so_far, le)

pub first_done : {A : Type 0} (moment : A → ℕ) (first index : ℕ) (xs : List A) → length xs ≤ index → IsFirst moment first index xs → first ≡ first_of moment xs
first_done moment first index xs le is =
    least first (first_of moment xs) (first_of moment (drop index xs)) (ap (first_of moment) (no_more index xs le)) (first_within moment xs) is.so_far is.within
