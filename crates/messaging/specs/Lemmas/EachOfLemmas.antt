-- What holds of each of a list, or of each two, holds of those that are left, and of one more.
use Rattle.std.proofs.Common.{◌≡◌, ◌≤◌, Bool, true, false, cond, List, [], ◌∷◌, ◌++◌, length, filter, refl, arith}
use Rattle.messaging.specs.Sound.{EachOf, EachTwoOf}

pub each_left : {A : Type 0} (P : A → Type 0) (test : A → Bool) (xs : List A) → EachOf P xs → EachOf P (filter test xs)
each_left P test [] all = tt
each_left P test (x ∷ xs) all =
    elim (test x) as (λ b. EachOf P (cond b (x ∷ filter test xs) (filter test xs))) [
      | true ↦ (all.0, each_left P test xs all.1)
      | false ↦ each_left P test xs all.1
    ]

pub each_more : {A : Type 0} (P : A → Type 0) (xs : List A) (new : A) → EachOf P xs → P new → EachOf P (xs ++ new ∷ [])
each_more P [] new all is = (is, tt)
each_more P (x ∷ xs) new all is = (all.0, each_more P xs new all.1 is)

pub each_weaker : {A : Type 0} (P Q : A → Type 0) → ((x : A) → P x → Q x) → (xs : List A) → EachOf P xs → EachOf Q xs
each_weaker P Q weak [] all = tt
each_weaker P Q weak (x ∷ xs) all = (weak x all.0, each_weaker P Q weak xs all.1)

passing_step : {A : Type 0} (b : Bool) (test : A → Bool) (x : A) (left : List A) → test x ≡ b → EachOf (λ y. test y ≡ true) left → EachOf (λ y. test y ≡ true) (cond b (x ∷ left) left)
passing_step true test x left is all = (is, all)
passing_step false test x left is all = all

-- each that a filter leaves passes its test
pub each_passes : {A : Type 0} (test : A → Bool) (xs : List A) → EachOf (λ x. test x ≡ true) (filter test xs)
each_passes test [] = tt
each_passes test (x ∷ xs) = passing_step (test x) test x (filter test xs) refl (each_passes test xs)

pub two_left : {A : Type 0} (R : A → A → Type 0) (test : A → Bool) (xs : List A) → EachTwoOf R xs → EachTwoOf R (filter test xs)
two_left R test [] all = tt
two_left R test (x ∷ xs) all =
    elim (test x) as (λ b. EachTwoOf R (cond b (x ∷ filter test xs) (filter test xs))) [
      | true ↦ (each_left (R x) test xs all.0, two_left R test xs all.1)
      | false ↦ two_left R test xs all.1
    ]

pub two_more : {A : Type 0} (R : A → A → Type 0) (xs : List A) (new : A) → EachTwoOf R xs → EachOf (λ x. R x new) xs → EachTwoOf R (xs ++ new ∷ [])
two_more R [] new all fits = (tt, tt)
two_more R (x ∷ xs) new all fits = (each_more (R x) xs new all.0 fits.0, two_more R xs new all.1 fits.1)

fewer_step : {A : Type 0} (b : Bool) (x : A) (left xs : List A) → length left ≤ length xs → length (cond b (x ∷ left) left) ≤ length (x ∷ xs)
fewer_step true x left xs le = omega arith
fewer_step false x left xs le = omega arith

-- a filter leaves no more
pub few_left : {A : Type 0} (test : A → Bool) (xs : List A) → length (filter test xs) ≤ length xs
few_left test [] = omega arith
few_left test (x ∷ xs) = fewer_step (test x) x (filter test xs) xs (few_left test xs)
