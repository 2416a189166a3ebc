-- Lists: what stands in them, what holds of each element, how many pass a test.
use Rattle.std.proofs.Common.{◌≡◌, ℕ, zero, suc, ◌+◌, Bool, true, false, cond, List, [], ◌∷◌, ◌++◌, filter, count_by, slice_get, Some, ◌⊎◌, inl, inr, refl, sym, ◌∙◌, subst, arith}
use Rattle.std.proofs.lemmas.List.Sums.{sum_by-append}
use Rattle.std.specs.List.{AllByRecursion}
use Rattle.cip_types.specs.Order.{inserted, in_order}

-- it stands in the list
abbrev pub Has : {X : Type 0} → X → List X → Type 0
Has x [] = ⊥
Has x (y ∷ ys) = (y ≡ x) ⊎ Has x ys

pub has_append : {X : Type 0} (x : X) (xs ys : List X) → Has x (xs ++ ys) → Has x xs ⊎ Has x ys
has_append x [] ys has = inr has
has_append x (y ∷ xs) ys (inl is) = inl (inl is)
has_append x (y ∷ xs) ys (inr has) = step (has_append x xs ys has) where
  step : Has x xs ⊎ Has x ys → Has x (y ∷ xs) ⊎ Has x ys
  step (inl there) = inl (inr there)
  step (inr there) = inr there

pub has_last : {X : Type 0} (x z : X) (xs : List X) → Has x (xs ++ z ∷ []) → Has x xs ⊎ (z ≡ x)
has_last x z xs has = step (has_append x xs (z ∷ []) has) where
  step : Has x xs ⊎ Has x (z ∷ []) → Has x xs ⊎ (z ≡ x)
  step (inl there) = inl there
  step (inr (inl is)) = inr is
  step (inr (inr none)) = absurd none

pub all_has : {X : Type 0} (P : X → Type 0) (xs : List X) (x : X) → AllByRecursion P xs → Has x xs → P x
all_has P [] x all has = absurd has
all_has P (y ∷ ys) x all (inl is) = subst P is all.0
all_has P (y ∷ ys) x all (inr has) = all_has P ys x all.1 has

pub all_last : {X : Type 0} (P : X → Type 0) (xs : List X) (x : X) → AllByRecursion P xs → P x → AllByRecursion P (xs ++ x ∷ [])
all_last P [] x all holds = (holds, tt)
all_last P (y ∷ xs) x all holds = (all.0, all_last P xs x all.1 holds)

pub get_has : {X : Type 0} (xs : List X) (i : ℕ) (x : X) → slice_get xs i ≡ Some x → Has x xs
get_has [] i x at = absurd (let e = at in cc)
get_has (y ∷ xs) zero x at = inl (let e = at in cc)
get_has (y ∷ xs) (suc i) x at = inr (get_has xs i x at)

-- ---- what a filter and an order keep

kept_step : {X : Type 0} (b : Bool) (p : X → Bool) (x y : X) (ys : List X) → p y ≡ b → p x ≡ true → (y ≡ x) ⊎ Has x ys → (Has x ys → Has x (filter p ys)) → Has x (cond b (y ∷ filter p ys) (filter p ys))
kept_step true p x y ys is passes (inl same) rest = inl same
kept_step true p x y ys is passes (inr has) rest = inr (rest has)
kept_step false p x y ys is passes (inl same) rest = absurd (let e : p x ≡ false = subst (λ z. p z ≡ false) same is in cc)
kept_step false p x y ys is passes (inr has) rest = rest has

pub has_filter : {X : Type 0} (p : X → Bool) (x : X) (xs : List X) → p x ≡ true → Has x xs → Has x (filter p xs)
has_filter p x [] passes has = absurd has
has_filter p x (y ∷ ys) passes has = kept_step (p y) p x y ys refl passes has (has_filter p x ys passes)

new_step : {X : Type 0} (b : Bool) (x y : X) (ys more : List X) → Has x more → Has x (cond b (x ∷ y ∷ ys) (y ∷ more))
new_step true x y ys more has = inl refl
new_step false x y ys more has = inr has

has_new : {X : Type 0} (before : X → X → Bool) (x : X) (ys : List X) → Has x (inserted before x ys)
has_new before x [] = inl refl
has_new before x (y ∷ ys) = new_step (before x y) x y ys (inserted before x ys) (has_new before x ys)

old_step : {X : Type 0} (b : Bool) (x z y : X) (ys more : List X) → (y ≡ x) ⊎ Has x ys → (Has x ys → Has x more) → Has x (cond b (z ∷ y ∷ ys) (y ∷ more))
old_step true x z y ys more has rest = inr has
old_step false x z y ys more (inl is) rest = inl is
old_step false x z y ys more (inr has) rest = inr (rest has)

has_old : {X : Type 0} (before : X → X → Bool) (x z : X) (ys : List X) → Has x ys → Has x (inserted before z ys)
has_old before x z [] has = absurd has
has_old before x z (y ∷ ys) has = old_step (before z y) x z y ys (inserted before z ys) has (has_old before x z ys)

pub has_order : {X : Type 0} (before : X → X → Bool) (x : X) (xs : List X) → Has x xs → Has x (in_order before xs)
has_order before x [] has = absurd has
has_order before x (y ∷ ys) (inl is) = subst (λ z. Has x (inserted before z (in_order before ys))) (sym is) (has_new before x (in_order before ys))
has_order before x (y ∷ ys) (inr has) = has_old before x y (in_order before ys) (has_order before x ys has)

-- ---- counts

pub count_last : {X : Type 0} (p : X → Bool) (xs : List X) (x : X) (b : Bool) → p x ≡ b → count_by p (xs ++ x ∷ []) ≡ count_by p xs + cond b 1 0
count_last p xs x b is = sum_by-append (λ x. cond (p x) 1 0) xs (x ∷ []) ∙ rw is (omega arith)

-- a test that none passes counts none
pub count_none : {X : Type 0} (p : X → Bool) (xs : List X) → AllByRecursion (λ x. p x ≡ false) xs → count_by p xs ≡ 0
count_none p [] all = refl
count_none p (x ∷ xs) all = rw (all.0, count_none p xs all.1) refl
