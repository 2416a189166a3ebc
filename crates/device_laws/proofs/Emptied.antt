-- Lists of which filters, orders and maps leave nothing.
use Rattle.std.proofs.Common.{◌≡◌, Bool, true, false, cond, List, [], ◌∷◌, ◌++◌, map, filter, Option, Some, None, refl}
use Rattle.std.specs.List.{AllByRecursion, filter_map}
use Rattle.std.specs.Option.{is_some}
use Rattle.cip_types.specs.Order.{inserted, in_order, first_of_each}

none_inserted : {X : Type 0} (before : X → X → Bool) (x : X) (xs rest : List X) → inserted before x xs ≡ [] → x ∷ rest ≡ []
none_inserted before x [] rest is = absurd cc
none_inserted before x (y ∷ ys) rest is = split (before x y) is
  where
    split : (b : Bool) → cond b (x ∷ y ∷ ys) (y ∷ inserted before x ys) ≡ [] → x ∷ rest ≡ []
    split true is = absurd cc
    split false is = absurd cc

pub none_ordered : {X : Type 0} (before : X → X → Bool) (xs : List X) → in_order before xs ≡ [] → xs ≡ []
none_ordered before [] is = refl
none_ordered before (x ∷ xs) is = none_inserted before x (in_order before xs) xs is

pub none_mapped : {X Y : Type 0} (f : X → Y) (xs : List X) → map f xs ≡ [] → xs ≡ []
none_mapped f [] is = refl
none_mapped f (x ∷ xs) is = absurd cc

pub none_joined : {X : Type 0} (xs ys : List X) → xs ++ ys ≡ [] → (xs ≡ []) × (ys ≡ [])
none_joined [] ys is = (refl, is)
none_joined (x ∷ xs) ys is = absurd cc

pub none_first : {X : Type 0} (same : X → X → Bool) (xs : List X) → first_of_each same xs ≡ [] → xs ≡ []
none_first same [] is = refl
none_first same (x ∷ xs) is = absurd cc

-- the first element of a list fails a test that leaves nothing
pub none_kept : {X : Type 0} (p : X → Bool) (x : X) (xs : List X) → filter p (x ∷ xs) ≡ [] → (p x ≡ false) × (filter p xs ≡ [])
none_kept p x xs is = split (p x) refl is
  where
    split : (b : Bool) → p x ≡ b → cond b (x ∷ filter p xs) (filter p xs) ≡ [] → (p x ≡ false) × (filter p xs ≡ [])
    split true here is = absurd cc
    split false here is = (here, is)

made_of : {X Y : Type 0} (h : X → Option Y) (x : X) (xs : List X) (o : Option Y) → h x ≡ o → is_some (h x) ≡ true → filter_map h (x ∷ xs) ≡ [] → x ∷ xs ≡ []
made_of h x xs None is some none = absurd (let e : is_some (h x) ≡ false = rw is refl in let f : true ≡ false = rw (← some) e in cc)
made_of h x xs (Some y) is some none = absurd (let e : y ∷ filter_map h xs ≡ [] = rw (← none, is) refl in cc)

-- something is made of each element, so nothing is made of no element alone
pub none_made : {X Y : Type 0} (h : X → Option Y) (xs : List X) → AllByRecursion (λ x. is_some (h x) ≡ true) xs → filter_map h xs ≡ [] → xs ≡ []
none_made h [] all is = refl
none_made h (x ∷ xs) all is = made_of h x xs (h x) refl all.0 is
