-- Few elements, each of which has a property: what filters, orders and maps keep of that.
use Rattle.std.proofs.Common.{◌≡◌, ◌≤◌, ◌+◌, ℕ, zero, suc, Bool, true, false, cond, List, [], ◌∷◌, ◌++◌, length, map, filter, find, Option, Some, None, refl, arith, length-append}
use Rattle.std.specs.List.{AllByRecursion, filter_map, flat_map}
use Rattle.std.specs.Option.{IfSome}
use Rattle.cip_types.specs.Order.{inserted, in_order, differs, first_of_each}

-- at most so many elements, and it holds of each
pub record Few {X : Type 0} (most : ℕ) (P : X → Type 0) (xs : List X) : Type 0 where
  pub count : length xs ≤ most
  pub each : AllByRecursion P xs

pub few_none : {X : Type 0} (most : ℕ) (P : X → Type 0) → Few most P []
few_none most P = record { count = omega arith; each = tt }

pub few_one : {X : Type 0} (most : ℕ) (P : X → Type 0) (x : X) → 1 ≤ most → P x → Few most P (x ∷ [])
few_one most P x le holds = record { count = omega arith; each = (holds, tt) }

pub few_more : {X : Type 0} (most : ℕ) (P : X → Type 0) (x : X) (xs : List X) → P x → Few most P xs → Few (suc most) P (x ∷ xs)
few_more most P x xs holds few = record { count = omega (arith, few.count); each = (holds, few.each) }

pub few_most : {X : Type 0} (most own : ℕ) (P : X → Type 0) (xs : List X) → own ≤ most → Few own P xs → Few most P xs
few_most most own P xs le few = record { count = omega (arith, few.count, le); each = few.each }

each_both : {X : Type 0} (P : X → Type 0) (xs ys : List X) → AllByRecursion P xs → AllByRecursion P ys → AllByRecursion P (xs ++ ys)
each_both P [] ys first next = next
each_both P (x ∷ xs) ys first next = (first.0, each_both P xs ys first.1 next)

pub few_both : {X : Type 0} (a b : ℕ) (P : X → Type 0) (xs ys : List X) → Few a P xs → Few b P ys → Few (a + b) P (xs ++ ys)
few_both a b P xs ys first next = record { count = omega (arith, first.count, next.count, length-append xs ys); each = each_both P xs ys first.each next.each }

-- nothing need hold
abbrev pub Any : {X : Type 0} → X → Type 0
Any x = Unit {0}

each_any : {X : Type 0} (xs : List X) → AllByRecursion (Any {X = X}) xs
each_any [] = tt
each_any (x ∷ xs) = (tt, each_any xs)

pub few_any : {X : Type 0} (most : ℕ) (xs : List X) → length xs ≤ most → Few most (Any {X = X}) xs
few_any most xs few = record { count = few; each = each_any xs }

-- ---- one of two, and one that is found

pub either : {X : Type 0} (P : X → Type 0) (b : Bool) (x y : X) → P x → P y → P (cond b x y)
either P true x y first second = first
either P false x y first second = second

pub each_found : {X : Type 0} (P : X → Type 0) (p : X → Bool) (xs : List X) → AllByRecursion P xs → IfSome (find p xs) P
each_found P p [] each = tt
each_found P p (x ∷ xs) each = either (λ found. IfSome found P) (p x) (Some x) (find p xs) each.0 (each_found P p xs each.1)

-- ---- filters

own_filtered : {X : Type 0} (P : X → Type 0) (p : X → Bool) (xs : List X) → AllByRecursion P xs → Few (length xs) P (filter p xs)
own_filtered P p [] each = few_none 0 P
own_filtered P p (x ∷ xs) each =
    let rest = own_filtered P p xs each.1 in
    either (Few (suc (length xs)) P) (p x) (x ∷ filter p xs) (filter p xs) (few_more (length xs) P x (filter p xs) each.0 rest) (few_most (suc (length xs)) (length xs) P (filter p xs) (omega arith) rest)

pub few_filtered : {X : Type 0} (most : ℕ) (P : X → Type 0) (p : X → Bool) (xs : List X) → Few most P xs → Few most P (filter p xs)
few_filtered most P p xs few = few_most most (length xs) P (filter p xs) few.count (own_filtered P p xs few.each)

-- ---- orders

own_inserted : {X : Type 0} (P : X → Type 0) (before : X → X → Bool) (x : X) (most : ℕ) (ys : List X) → P x → Few most P ys → Few (suc most) P (inserted before x ys)
own_inserted P before x most [] holds few = few_one (suc most) P x (omega arith) holds
own_inserted P before x zero (y ∷ ys) holds few = absurd (omega (arith, few.count))
own_inserted P before x (suc most) (y ∷ ys) holds few =
    either (Few (suc (suc most)) P) (before x y) (x ∷ y ∷ ys) (y ∷ inserted before x ys) (few_more (suc most) P x (y ∷ ys) holds few)
    (few_more (suc most) P y (inserted before x ys) few.each.0 (own_inserted P before x most ys holds (record { count = omega (arith, few.count); each = few.each.1 })))

own_ordered : {X : Type 0} (P : X → Type 0) (before : X → X → Bool) (xs : List X) → AllByRecursion P xs → Few (length xs) P (in_order before xs)
own_ordered P before [] each = few_none 0 P
own_ordered P before (x ∷ xs) each = own_inserted P before x (length xs) (in_order before xs) each.0 (own_ordered P before xs each.1)

pub few_ordered : {X : Type 0} (most : ℕ) (P : X → Type 0) (before : X → X → Bool) (xs : List X) → Few most P xs → Few most P (in_order before xs)
few_ordered most P before xs few = few_most most (length xs) P (in_order before xs) few.count (own_ordered P before xs few.each)

own_firsts : {X : Type 0} (P : X → Type 0) (same : X → X → Bool) (xs : List X) → AllByRecursion P xs → Few (length xs) P (first_of_each same xs)
own_firsts P same [] each = few_none 0 P
own_firsts P same (x ∷ xs) each =
    few_more (length xs) P x (filter (differs same x) (first_of_each same xs)) each.0 (few_filtered (length xs) P (differs same x) (first_of_each same xs) (own_firsts P same xs each.1))

pub few_firsts : {X : Type 0} (most : ℕ) (P : X → Type 0) (same : X → X → Bool) (xs : List X) → Few most P xs → Few most P (first_of_each same xs)
few_firsts most P same xs few = few_most most (length xs) P (first_of_each same xs) few.count (own_firsts P same xs few.each)

-- ---- maps

own_mapped : {X Y : Type 0} (P : X → Type 0) (Q : Y → Type 0) (f : X → Y) → ((x : X) → P x → Q (f x)) → (xs : List X) → AllByRecursion P xs → Few (length xs) Q (map f xs)
own_mapped P Q f makes [] each = few_none 0 Q
own_mapped P Q f makes (x ∷ xs) each = few_more (length xs) Q (f x) (map f xs) (makes x each.0) (own_mapped P Q f makes xs each.1)

pub few_mapped : {X Y : Type 0} (most : ℕ) (P : X → Type 0) (Q : Y → Type 0) (f : X → Y) → ((x : X) → P x → Q (f x)) → (xs : List X) → Few most P xs → Few most Q (map f xs)
few_mapped most P Q f makes xs few = few_most most (length xs) Q (map f xs) few.count (own_mapped P Q f makes xs few.each)

made_step : {X Y : Type 0} (o : Option Y) (Q : Y → Type 0) (f : X → Option Y) (x : X) (xs : List X) → f x ≡ o → IfSome o Q → Few (length xs) Q (filter_map f xs) → Few (suc (length xs)) Q (filter_map f (x ∷ xs))
made_step None Q f x xs is made rest = rw is (few_most (suc (length xs)) (length xs) Q (filter_map f xs) (omega arith) rest)
made_step (Some y) Q f x xs is made rest = rw is (few_more (length xs) Q y (filter_map f xs) made rest)

own_made : {X Y : Type 0} (P : X → Type 0) (Q : Y → Type 0) (f : X → Option Y) → ((x : X) → P x → IfSome (f x) Q) → (xs : List X) → AllByRecursion P xs → Few (length xs) Q (filter_map f xs)
own_made P Q f makes [] each = few_none 0 Q
own_made P Q f makes (x ∷ xs) each = made_step (f x) Q f x xs refl (makes x each.0) (own_made P Q f makes xs each.1)

-- what is made of some
pub few_made : {X Y : Type 0} (most : ℕ) (P : X → Type 0) (Q : Y → Type 0) (f : X → Option Y) → ((x : X) → P x → IfSome (f x) Q) → (xs : List X) → Few most P xs → Few most Q (filter_map f xs)
few_made most P Q f makes xs few = few_most most (length xs) Q (filter_map f xs) few.count (own_made P Q f makes xs few.each)

-- ---- lists of lists

-- what each gives has one element at most
pub few_flat : {X Y : Type 0} (Q : Y → Type 0) (f : X → List Y) → ((x : X) → Few 1 Q (f x)) → (xs : List X) → Few (length xs) Q (flat_map f xs)
few_flat Q f gives [] = few_none 0 Q
few_flat Q f gives (x ∷ xs) = few_most (suc (length xs)) (1 + length xs) Q (f x ++ flat_map f xs) (omega arith) (few_both 1 (length xs) Q (f x) (flat_map f xs) (gives x) (few_flat Q f gives xs))
