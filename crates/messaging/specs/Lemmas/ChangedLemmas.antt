-- What the change of one class 3 connection keeps.
use Rattle.std.proofs.Common.{◌≡◌, ◌||◌, Bool, true, false, cond, List, [], ◌∷◌, length, refl, suc, ap}
use Rattle.std.specs.List.{list_any}
use Rattle.messaging.specs.declared.class3.Class3Connection.{Class3Connection}
use Rattle.messaging.specs.Class3Connections.{first_changed}
use Rattle.messaging.specs.Sound.{EachOf, EachTwoOf}

pub changed_each : (P : Class3Connection → Type 0) (test : Class3Connection → Bool) (f : Class3Connection → Class3Connection) → ((d : Class3Connection) → P d → P (f d)) → (class3_connections : List Class3Connection) → EachOf P class3_connections → EachOf P (first_changed test f class3_connections)
changed_each P test f keeps [] all = tt
changed_each P test f keeps (d ∷ class3_connections) all =
    elim (test d) as (λ b. EachOf P (cond b (f d ∷ class3_connections) (d ∷ first_changed test f class3_connections))) [
      | true ↦ (keeps d all.0, all.1)
      | false ↦ (all.0, changed_each P test f keeps class3_connections all.1)
    ]

each_of : (P Q : Class3Connection → Type 0) → ((d : Class3Connection) → P d → Q d) → (class3_connections : List Class3Connection) → EachOf P class3_connections → EachOf Q class3_connections
each_of P Q weak [] all = tt
each_of P Q weak (d ∷ class3_connections) all = (weak d all.0, each_of P Q weak class3_connections all.1)

pub changed_two : (R : Class3Connection → Class3Connection → Type 0) (test : Class3Connection → Bool) (f : Class3Connection → Class3Connection) → ((a b : Class3Connection) → R a b → R (f a) b) → ((a b : Class3Connection) → R a b → R a (f b)) → (class3_connections : List Class3Connection) → EachTwoOf R class3_connections → EachTwoOf R (first_changed test f class3_connections)
changed_two R test f first second [] all = tt
changed_two R test f first second (d ∷ class3_connections) all =
    elim (test d) as (λ b. EachTwoOf R (cond b (f d ∷ class3_connections) (d ∷ first_changed test f class3_connections))) [
      | true ↦ (each_of (R d) (R (f d)) (first d) class3_connections all.0, all.1)
      | false ↦ (changed_each (R d) test f (second d) class3_connections all.0, changed_two R test f first second class3_connections all.1)
    ]

pub changed_length : (test : Class3Connection → Bool) (f : Class3Connection → Class3Connection) (class3_connections : List Class3Connection) → length (first_changed test f class3_connections) ≡ length class3_connections
changed_length test f [] = refl
changed_length test f (d ∷ class3_connections) = length_step (test d) d (f d) class3_connections (first_changed test f class3_connections) (changed_length test f class3_connections) where
  length_step : (b : Bool) (d changed : Class3Connection) (rest new : List Class3Connection) → length new ≡ length rest → length (cond b (changed ∷ rest) (d ∷ new)) ≡ length (d ∷ rest)
  length_step true d changed rest new same = refl
  length_step false d changed rest new same = ap (λ n. suc n) same

-- a test that the change does not concern
pub changed_any : (p test : Class3Connection → Bool) (f : Class3Connection → Class3Connection) → ((d : Class3Connection) → p (f d) ≡ p d) → (class3_connections : List Class3Connection) → list_any p (first_changed test f class3_connections) ≡ list_any p class3_connections
changed_any p test f same [] = refl
changed_any p test f same (d ∷ class3_connections) = any_step (test d) p d (f d) class3_connections (first_changed test f class3_connections) (same d) (changed_any p test f same class3_connections) where
  any_step : (b : Bool) (p : Class3Connection → Bool) (d changed : Class3Connection) (rest new : List Class3Connection) → p changed ≡ p d → list_any p new ≡ list_any p rest → list_any p (cond b (changed ∷ rest) (d ∷ new)) ≡ list_any p (d ∷ rest)
  any_step true p d changed rest new here later = ap (λ b. b || list_any p rest) here
  any_step false p d changed rest new here later = ap (λ b. p d || b) later

found_step : (b c : Bool) (p : Class3Connection → Bool) (d changed : Class3Connection) (rest new : List Class3Connection) → (b ≡ true → p changed ≡ true) → (c ≡ true → list_any p new ≡ true) → (b || c) ≡ true → list_any p (cond b (changed ∷ rest) (d ∷ new)) ≡ true
found_step true c p d changed rest new here later found = rw (here refl) refl
found_step false c p d changed rest new here later found = right (p d) (list_any p new) (later found) where
  right : (a b : Bool) → b ≡ true → (a || b) ≡ true
  right true b is = refl
  right false b is = is

-- if one is found to be changed, one passes what the change brings
pub changed_found : (p test : Class3Connection → Bool) (f : Class3Connection → Class3Connection) → ((d : Class3Connection) → test d ≡ true → p (f d) ≡ true) → (class3_connections : List Class3Connection) → list_any test class3_connections ≡ true → list_any p (first_changed test f class3_connections) ≡ true
changed_found p test f brings [] found = absurd cc
changed_found p test f brings (d ∷ class3_connections) found =
    found_step (test d) (list_any test class3_connections) p d (f d) class3_connections (first_changed test f class3_connections) (brings d) (changed_found p test f brings class3_connections) found
