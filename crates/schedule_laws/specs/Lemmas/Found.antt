-- Lists: what is found in one, and what stands there still where more is added.
use Rattle.std.proofs.Common.{◌≡◌, ℕ, zero, suc, Bool, true, false, cond, List, [], ◌∷◌, ◌++◌, map, find, slice_get, Option, Some, refl, subst}
use Rattle.std.specs.List.{AllByRecursion, Contains}
use Rattle.std.proofs.lemmas.List.Elements.{All-from_recursion, All-contains}
use Rattle.std.proofs.lemmas.Option.{same_Some}

more_step : {X : Type 0} (b : Bool) (z x : X) (rest more : Option X) → (rest ≡ Some x → more ≡ Some x) → cond b (Some z) rest ≡ Some x → cond b (Some z) more ≡ Some x
more_step true z x rest more on is = is
more_step false z x rest more on is = on is

-- what is found is found where more stands behind
pub find_more : {X : Type 0} (p : X → Bool) (xs ys : List X) (x : X) → find p xs ≡ Some x → find p (xs ++ ys) ≡ Some x
find_more p [] ys x is = absurd (let e = is in cc)
find_more p (z ∷ xs) ys x is = more_step (p z) z x (find p xs) (find p (xs ++ ys)) (find_more p xs ys x) is

-- the last one is found, where no other passes
pub find_last : {X : Type 0} (p : X → Bool) (xs : List X) (x : X) → AllByRecursion (λ y. p y ≡ false) xs → p x ≡ true → find p (xs ++ x ∷ []) ≡ Some x
find_last p [] x none is = rw is refl
find_last p (y ∷ xs) x none is = rw (none.0) (find_last p xs x none.1 is)

holds_step : {X : Type 0} (P : X → Type 0) (b : Bool) (z x : X) (rest : Option X) → P z → (rest ≡ Some x → P x) → cond b (Some z) rest ≡ Some x → P x
holds_step P true z x rest holds on is = subst P (same_Some z x is) holds
holds_step P false z x rest holds on is = on is

-- what holds of each holds of what is found
pub found_holds : {X : Type 0} (P : X → Type 0) (p : X → Bool) (xs : List X) (x : X) → AllByRecursion P xs → find p xs ≡ Some x → P x
found_holds P p [] x all is = absurd (let e = is in cc)
found_holds P p (z ∷ xs) x all is = holds_step P (p z) z x (find p xs) all.0 (found_holds P p xs x all.1) is

-- what holds of each holds of what stands among them
pub all_contains : {X : Type 0} (P : X → Type 0) (xs : List X) (x : X) → AllByRecursion P xs → Contains xs x → P x
all_contains P xs x all there = All-contains P xs x (All-from_recursion P xs all) there

-- an element of a list that is seen by a function
pub record SeenAt {X Y : Type 0} (f : X → Y) (xs : List X) (n : ℕ) (y : Y) : Type 0 where
  pub element : X
  pub there : slice_get xs n ≡ Some element
  pub is : f element ≡ y

pub seen_at : {X Y : Type 0} (f : X → Y) (xs : List X) (n : ℕ) (y : Y) → slice_get (map f xs) n ≡ Some y → SeenAt f xs n y
seen_at f [] n y at = absurd (let e = at in cc)
seen_at f (x ∷ xs) zero y at = record { element = x; there = refl; is = same_Some (f x) y at }
seen_at f (x ∷ xs) (suc n) y at = let more = seen_at f xs n y at in record { element = more.element; there = more.there; is = more.is }
