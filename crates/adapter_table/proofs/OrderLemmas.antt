-- A list in an order has what the list has.
use Rattle.std.proofs.Common.{◌≡◌, Bool, true, false, cond, List, [], ◌∷◌, length, filter, refl, ◌∙◌, arith}
use Rattle.cip_types.specs.Order.{inserted, in_order}

swap_step : {A : Type 0} (a b : Bool) (x y : A) (more rest : List A) → length more ≡ length (cond a (x ∷ rest) rest) → length (cond b (y ∷ more) more) ≡ length (cond a (x ∷ cond b (y ∷ rest) rest) (cond b (y ∷ rest) rest))
swap_step true true x y more rest same = omega arith
swap_step true false x y more rest same = same
swap_step false true x y more rest same = omega arith
swap_step false false x y more rest same = same

-- as many pass a test
count_inserted : {A : Type 0} (before : A → A → Bool) (p : A → Bool) (x : A) (ys : List A) → length (filter p (inserted before x ys)) ≡ length (filter p (x ∷ ys))
count_inserted before p x [] = refl
count_inserted before p x (y ∷ ys) =
    elim (before x y) as (λ b. length (filter p (cond b (x ∷ y ∷ ys) (y ∷ inserted before x ys))) ≡ length (filter p (x ∷ y ∷ ys))) [
      | true ↦ refl
      | false ↦ swap_step (p x) (p y) x y (filter p (inserted before x ys)) (filter p ys) (count_inserted before p x ys)
    ]

head_step : {A : Type 0} (b : Bool) (x : A) (more rest : List A) → length more ≡ length rest → length (cond b (x ∷ more) more) ≡ length (cond b (x ∷ rest) rest)
head_step true x more rest same = omega arith
head_step false x more rest same = same

pub count_in_order : {A : Type 0} (before : A → A → Bool) (p : A → Bool) (xs : List A) → length (filter p (in_order before xs)) ≡ length (filter p xs)
count_in_order before p [] = refl
count_in_order before p (x ∷ xs) =
    count_inserted before p x (in_order before xs) ∙ head_step (p x) x (filter p (in_order before xs)) (filter p xs) (count_in_order before p xs)
