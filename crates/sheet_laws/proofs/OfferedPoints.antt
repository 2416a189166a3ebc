-- Each point of a faultless profile is found by its instance.
use Rattle.std.proofs.Common.{◌≡◌, ℕ, ◌==◌, ◌||◌, Bool, true, false, cond, not, List, [], ◌∷◌, ◌++◌, map, flat_map, find, Option, Some, None, refl, arith}
use Rattle.std.specs.List.{list_any}
use Rattle.std.proofs.lemmas.Bool.{eqb-true, not-true, and_parts, or_parts}
use Rattle.std.proofs.lemmas.Bool.Decides.{nat_tests}
use Rattle.messaging.specs.Sound.{EachOf}
use Rattle.adapter_table.specs.declared.profile.InputPoint.{InputPoint}
use Rattle.adapter_table.specs.declared.profile.OutputPoint.{OutputPoint}
use Rattle.adapter_table.specs.Profiles.{is_at, is_output_at, as_point, are_distinct}

-- EACH ELEMENT OF A LIST

pub each_append : {A : Type 0} (P : A → Type 0) (xs ys : List A) → EachOf P xs → EachOf P ys → EachOf P (xs ++ ys)
each_append P [] ys left right = right
each_append P (x ∷ xs) ys left right = (left.0, each_append P xs ys left.1 right)

pub each_map : {A B : Type 0} (P : A → Type 0) (Q : B → Type 0) (f : A → B) → ((x : A) → P x → Q (f x)) → (xs : List A) → EachOf P xs → EachOf Q (map f xs)
each_map P Q f step [] each = tt
each_map P Q f step (x ∷ xs) each = (step x each.0, each_map P Q f step xs each.1)

pub each_flat : {A B : Type 0} (P : A → Type 0) (Q : B → Type 0) (f : A → List B) → ((x : A) → P x → EachOf Q (f x)) → (xs : List A) → EachOf P xs → EachOf Q (flat_map f xs)
each_flat P Q f step [] each = tt
each_flat P Q f step (x ∷ xs) each = each_append Q (f x) (flat_map f xs) (step x each.0) (each_flat P Q f step xs each.1)

pub each_if : {A : Type 0} (P : A → Type 0) (b : Bool) (xs : List A) → (b ≡ true → EachOf P xs) → EachOf P (cond b xs [])
each_if P true xs each = each refl
each_if P false xs each = tt

pub each_so : {A : Type 0} (P Q : A → Type 0) (xs : List A) → ((x : A) → P x → Q x) → EachOf P xs → EachOf Q xs
each_so P Q [] step each = tt
each_so P Q (x ∷ xs) step each = (step x each.0, each_so P Q xs step each.1)

each_both : {A : Type 0} (P Q R : A → Type 0) (xs : List A) → ((x : A) → P x → Q x → R x) → EachOf P xs → EachOf Q xs → EachOf R xs
each_both P Q R [] step left right = tt
each_both P Q R (x ∷ xs) step left right = (step x left.0 right.0, each_both P Q R xs step left.1 right.1)

-- POINTS BY THEIR INSTANCES

pub same : (n : ℕ) → (n == n) ≡ true
same n = grind (arith, nat_tests)

other_way : (a b : ℕ) → (a == b) ≡ false → (b == a) ≡ false
other_way a b differ = grind (arith, nat_tests)

-- the element that is found behind another one
behind : {A : Type 0} (b : Bool) (first : A) (rest said : Option A) → b ≡ false → rest ≡ said → cond b (Some first) rest ≡ said
behind b first rest said differs is = rw differs is

here : {A : Type 0} (b : Bool) (first : A) (rest : Option A) → b ≡ true → cond b (Some first) rest ≡ Some first
here b first rest is = rw is refl

pub any_back : (instance : ℕ) (xs ys : List InputPoint) → list_any (is_at instance) ys ≡ true → list_any (is_at instance) (xs ++ ys) ≡ true
any_back instance [] ys is = is
any_back instance (x ∷ xs) ys is = or_right (is_at instance x) _ (any_back instance xs ys is)
  where
    or_right : (a b : Bool) → b ≡ true → (a || b) ≡ true
    or_right true b is = refl
    or_right false b is = is

none_back : (instance : ℕ) (xs ys : List InputPoint) → list_any (is_at instance) (xs ++ ys) ≡ false → list_any (is_at instance) ys ≡ false
none_back instance [] ys none = none
none_back instance (x ∷ xs) ys none = none_back instance xs ys (or_parts (is_at instance x) (list_any (is_at instance) (xs ++ ys)) none).1

-- no input of a list has this instance
inputs_apart : (instance : ℕ) (xs ys : List InputPoint) → list_any (is_at instance) (xs ++ ys) ≡ false → EachOf (λ x. (instance == x.instance) ≡ false) xs
inputs_apart instance [] ys none = tt
inputs_apart instance (x ∷ xs) ys none =
    let parts = or_parts (is_at instance x) (list_any (is_at instance) (xs ++ ys)) none in
    (other_way x.instance instance parts.0, inputs_apart instance xs ys parts.1)

outputs_apart : (instance : ℕ) (xs : List OutputPoint) (ys : List InputPoint) → list_any (is_at instance) (map as_point xs ++ ys) ≡ false → EachOf (λ x. (instance == x.instance) ≡ false) xs
outputs_apart instance [] ys none = tt
outputs_apart instance (x ∷ xs) ys none =
    let parts = or_parts (is_at instance (as_point x)) (list_any (is_at instance) (map as_point xs ++ ys)) none in
    (other_way x.instance instance parts.0, outputs_apart instance xs ys parts.1)

-- each input is found by its instance
pub inputs_found : (xs ys : List InputPoint) → are_distinct (xs ++ ys) ≡ true → EachOf (λ x. find (is_at x.instance) xs ≡ Some x) xs
inputs_found [] ys differ = tt
inputs_found (x ∷ xs) ys differ =
    let parts = and_parts (not (list_any (is_at x.instance) (xs ++ ys))) (are_distinct (xs ++ ys)) differ in (
      here (x.instance == x.instance) x (find (is_at x.instance) xs) (same x.instance),
      each_both (λ y. (x.instance == y.instance) ≡ false) (λ y. find (is_at y.instance) xs ≡ Some y) (λ y. find (is_at y.instance) (x ∷ xs) ≡ Some y) xs
          (λ y apart found. behind (x.instance == y.instance) x (find (is_at y.instance) xs) (Some y) apart found)
          (inputs_apart x.instance xs ys (not-true _ parts.0)) (inputs_found xs ys parts.1),
    )

-- so is each output
pub outputs_found : (xs : List OutputPoint) (ys : List InputPoint) → are_distinct (map as_point xs ++ ys) ≡ true → EachOf (λ x. find (is_output_at x.instance) xs ≡ Some x) xs
outputs_found [] ys differ = tt
outputs_found (x ∷ xs) ys differ =
    let parts = and_parts (not (list_any (is_at x.instance) (map as_point xs ++ ys))) (are_distinct (map as_point xs ++ ys)) differ in (
      here (x.instance == x.instance) x (find (is_output_at x.instance) xs) (same x.instance),
      each_both (λ y. (x.instance == y.instance) ≡ false) (λ y. find (is_output_at y.instance) xs ≡ Some y) (λ y. find (is_output_at y.instance) (x ∷ xs) ≡ Some y) xs
          (λ y apart found. behind (x.instance == y.instance) x (find (is_output_at y.instance) xs) (Some y) apart found)
          (outputs_apart x.instance xs ys (not-true _ parts.0)) (outputs_found xs ys parts.1),
    )

-- a point behind the outputs has none's instance
pub no_output : (instance : ℕ) (xs : List OutputPoint) (ys : List InputPoint) → are_distinct (map as_point xs ++ ys) ≡ true → list_any (is_at instance) ys ≡ true → find (is_output_at instance) xs ≡ None
no_output instance [] ys differ is = refl
no_output instance (x ∷ xs) ys differ is =
    let parts = and_parts (not (list_any (is_at x.instance) (map as_point xs ++ ys))) (are_distinct (map as_point xs ++ ys)) differ in
    let apart : (x.instance == instance) ≡ false = differs x.instance instance ys is (none_back x.instance (map as_point xs) ys (not-true _ parts.0)) in
    behind (x.instance == instance) x (find (is_output_at instance) xs) None apart (no_output instance xs ys parts.1 is)
  where
    clash : {A : Type 0} (b : Bool) → b ≡ true → b ≡ false → A
    clash b holds fails = absurd (cc)

    differs_by : (b : Bool) (a instance : ℕ) (ys : List InputPoint) → (a == instance) ≡ b → list_any (is_at instance) ys ≡ true → list_any (is_at a) ys ≡ false → b ≡ false
    differs_by false a instance ys which is none = refl
    differs_by true a instance ys which is none =
        let equal : a ≡ instance = eqb-true _ _ which in
        clash (list_any (is_at a) ys) (rw equal is) none

    differs : (a instance : ℕ) (ys : List InputPoint) → list_any (is_at instance) ys ≡ true → list_any (is_at a) ys ≡ false → (a == instance) ≡ false
    differs a instance ys is none = differs_by (a == instance) a instance ys refl is none
