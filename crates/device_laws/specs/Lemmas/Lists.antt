-- What holds of each element of a list holds of each of what filters, orders and maps make of it.
use Rattle.std.proofs.Common.{◌≡◌, Bool, true, false, cond, List, [], ◌∷◌, ◌++◌, map, filter, find, Option, Some, None, refl}
use Rattle.std.specs.List.{AllByRecursion, filter_map}
use Rattle.std.specs.Option.{IfSome}
use Rattle.cip_types.specs.Order.{inserted, in_order, differs, first_of_each}
use Rattle.device_laws.specs.Lemmas.Texts.{either}

pub all_both : {X : Type 0} (P : X → Type 0) (xs ys : List X) → AllByRecursion P xs → AllByRecursion P ys → AllByRecursion P (xs ++ ys)
all_both P [] ys first next = next
all_both P (x ∷ xs) ys first next = (first.0, all_both P xs ys first.1 next)

pub all_more : {X : Type 0} (P Q : X → Type 0) → ((x : X) → P x → Q x) → (xs : List X) → AllByRecursion P xs → AllByRecursion Q xs
all_more P Q more [] all = tt
all_more P Q more (x ∷ xs) all = (more x all.0, all_more P Q more xs all.1)

pub all_filtered : {X : Type 0} (P : X → Type 0) (p : X → Bool) (xs : List X) → AllByRecursion P xs → AllByRecursion P (filter p xs)
all_filtered P p [] all = tt
all_filtered P p (x ∷ xs) all =
    let rest = all_filtered P p xs all.1 in
    either (AllByRecursion P) (p x) (x ∷ filter p xs) (filter p xs) (all.0, rest) rest

pub all_kept : {X : Type 0} (p : X → Bool) (xs : List X) → AllByRecursion (λ x. p x ≡ true) (filter p xs)
all_kept p [] = tt
all_kept p (x ∷ xs) = split (p x) refl (all_kept p xs)
  where
    split : (b : Bool) → p x ≡ b → AllByRecursion (λ x. p x ≡ true) (filter p xs) → AllByRecursion (λ x. p x ≡ true) (cond b (x ∷ filter p xs) (filter p xs))
    split true here rest = (here, rest)
    split false here rest = rest

pub all_mapped : {X Y : Type 0} (P : X → Type 0) (Q : Y → Type 0) (f : X → Y) → ((x : X) → P x → Q (f x)) → (xs : List X) → AllByRecursion P xs → AllByRecursion Q (map f xs)
all_mapped P Q f makes [] all = tt
all_mapped P Q f makes (x ∷ xs) all = (makes x all.0, all_mapped P Q f makes xs all.1)

pub all_found : {X : Type 0} (P : X → Type 0) (p : X → Bool) (xs : List X) → AllByRecursion P xs → IfSome (find p xs) P
all_found P p [] all = tt
all_found P p (x ∷ xs) all = either (λ found. IfSome found P) (p x) (Some x) (find p xs) all.0 (all_found P p xs all.1)

all_inserted : {X : Type 0} (P : X → Type 0) (before : X → X → Bool) (x : X) (ys : List X) → P x → AllByRecursion P ys → AllByRecursion P (inserted before x ys)
all_inserted P before x [] holds all = (holds, tt)
all_inserted P before x (y ∷ ys) holds all =
    either (AllByRecursion P) (before x y) (x ∷ y ∷ ys) (y ∷ inserted before x ys) (holds, all) (all.0, all_inserted P before x ys holds all.1)

pub all_ordered : {X : Type 0} (P : X → Type 0) (before : X → X → Bool) (xs : List X) → AllByRecursion P xs → AllByRecursion P (in_order before xs)
all_ordered P before [] all = tt
all_ordered P before (x ∷ xs) all = all_inserted P before x (in_order before xs) all.0 (all_ordered P before xs all.1)

pub all_firsts : {X : Type 0} (P : X → Type 0) (same : X → X → Bool) (xs : List X) → AllByRecursion P xs → AllByRecursion P (first_of_each same xs)
all_firsts P same [] all = tt
all_firsts P same (x ∷ xs) all = (all.0, all_filtered P (differs same x) (first_of_each same xs) (all_firsts P same xs all.1))

made_step : {X Y : Type 0} (o : Option Y) (Q : Y → Type 0) (f : X → Option Y) (x : X) (xs : List X) → f x ≡ o → IfSome o Q → AllByRecursion Q (filter_map f xs) → AllByRecursion Q (filter_map f (x ∷ xs))
made_step None Q f x xs is made rest = rw is rest
made_step (Some y) Q f x xs is made rest = rw is (made, rest)

pub all_made : {X Y : Type 0} (P : X → Type 0) (Q : Y → Type 0) (f : X → Option Y) → ((x : X) → P x → IfSome (f x) Q) → (xs : List X) → AllByRecursion P xs → AllByRecursion Q (filter_map f xs)
all_made P Q f makes [] all = tt
all_made P Q f makes (x ∷ xs) all = made_step (f x) Q f x xs refl (makes x all.0) (all_made P Q f makes xs all.1)
