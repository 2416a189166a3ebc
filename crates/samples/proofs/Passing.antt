-- What passes a test: lists, ends of connections, slots of a table.
use Rattle.std.proofs.Common.{◌≡◌, ◌<◌, ◌≤◌, ℕ, suc, ◌==◌, ◌&&◌, ◌||◌, not, nat_lt, nat_le, Bool, true, false, cond, List, [], ◌∷◌, find, Option, Some, None, Result, Ok, Err, refl, sym, ◌∙◌, ap, subst, arith}
use Rattle.std.specs.List.{AllByRecursion, Contains, list_all, list_any}
use Rattle.std.specs.Str.{bytes_eq}
use Rattle.std.proofs.lemmas.Bool.{and_parts}
use Rattle.std.proofs.lemmas.Bool.Decides.{nat_tests}
use Rattle.std.proofs.lemmas.List.Elements.{All-contains_itself, recursion_from_All}
use Rattle.std.proofs.lemmas.List.Folds.{list_any_at}
use Rattle.scanner_table.specs.declared.profile.SlotConfig.{SlotConfig}
use Rattle.scanner_table.specs.declared.slot.Slot.{Slot}
use Rattle.scanner_table.specs.declared.table.ScannerTable.{ScannerTable}
use Rattle.scanner_table.specs.Slots.{IndexedSlot, indexed_from, indexed_slots, is_numbered, slot_at}
use Rattle.segment_world.specs.declared.act.ActFault.{ActFault}
use Rattle.device_laws.specs.Productions.{End, end_at, is_end}
use Rattle.schedule_laws.specs.Chronicle.{Chronicle}
use Rattle.samples.specs.Schedules.{observed}
use Rattle.samples.specs.MomentTests.{has_number}
use Rattle.cip_types.specs.declared.names.ConnId.{ConnId}

-- ---- a law refuses a bent chronicle whose test fails

-- the law at the bent chronicle, where no act has a fault
abbrev pub LawAt : (Chronicle → Type 0) → (Chronicle → Chronicle) → Result Chronicle ActFault → Type 0
LawAt Law bend (Err fault) = Unit {0}
LawAt Law bend (Ok c) = Law (bend c)

passes_not : {b : Bool} → b ≡ true → Some b ≡ Some false → ⊥
passes_not one two = let e = one in let f = two in cc

pub refuses : (Law : Chronicle → Type 0) (test : Chronicle → Bool) → ((c : Chronicle) → Law c → test c ≡ true) → (bend : Chronicle → Chronicle) (r : Result Chronicle ActFault) → observed (λ c. test (bend c)) r ≡ Some false → LawAt Law bend r → ⊥
refuses Law test passes bend (Err fault) fails law = absurd (let e = fails in cc)
refuses Law test passes bend (Ok c) fails law = passes_not (passes (bend c) law) fails

-- ---- tests and numbers

pub both_pass : (a b : Bool) → a ≡ true → b ≡ true → (a && b) ≡ true
both_pass a b one two = rw one two

pub both : {a b : Bool} → a ≡ true → b ≡ true → (a && b) ≡ true
both one two = rw one two

-- where the first holds, the second passes
pub then_passes : (a b : Bool) → (a ≡ true → b ≡ true) → (not a || b) ≡ true
then_passes true b on = on refl
then_passes false b on = refl

pub if_passes : (a b : Bool) → (a ≡ true → b ≡ true) → cond a b true ≡ true
if_passes true b on = on refl
if_passes false b on = refl

pub left_passes : (a b : Bool) → a ≡ true → (a || b) ≡ true
left_passes true b is = refl
left_passes false b is = absurd (let e = is in cc)

pub right_passes : (a b : Bool) → b ≡ true → (a || b) ≡ true
right_passes true b is = refl
right_passes false b is = is

pub number_is : (a b : ℕ) → a ≡ b → (a == b) ≡ true
number_is a b is = grind (arith, nat_tests)

pub is_number : (a b : ℕ) → (a == b) ≡ true → a ≡ b
is_number a b is = grind (arith, nat_tests)

pub number_is_less : (a b : ℕ) → a < b → nat_lt a b ≡ true
number_is_less a b is = grind (arith, nat_tests)

pub number_is_at_most : (a b : ℕ) → a ≤ b → nat_le a b ≡ true
number_is_at_most a b is = grind (arith, nat_tests)

-- ---- lists

same_bytes : (bytes : List ℕ) → bytes_eq bytes bytes ≡ true
same_bytes [] = refl
same_bytes (byte ∷ bytes) = both (number_is byte byte refl) (same_bytes bytes)

pub bytes_are : (a b : List ℕ) → a ≡ b → bytes_eq a b ≡ true
bytes_are a b is = subst (λ (x : List ℕ). bytes_eq a x ≡ true) is (same_bytes a)

pub all_pass : {X : Type 0} (P : X → Type 0) (test : X → Bool) → ((x : X) → P x → test x ≡ true) → (xs : List X) → AllByRecursion P xs → list_all test xs ≡ true
all_pass P test passes [] all = refl
all_pass P test passes (x ∷ xs) all = both (passes x all.0) (all_pass P test passes xs all.1)

pub each_there : {X : Type 0} (xs : List X) → AllByRecursion (Contains xs) xs
each_there xs = recursion_from_All (Contains xs) xs (All-contains_itself xs)

-- what is among them passes
pub members_pass : {X : Type 0} (test : X → Bool) (xs : List X) → ((x : X) → Contains xs x → test x ≡ true) → list_all test xs ≡ true
members_pass test xs passes = all_pass (Contains xs) test passes xs (each_there xs)

-- one that passes is enough
pub one_passes : {X : Type 0} (test : X → Bool) (xs : List X) (x : X) → Contains xs x → test x ≡ true → list_any test xs ≡ true
one_passes test xs x there is = list_any_at test xs there.0 x there.1 (ap test there.2 ∙ is)

same_some : {X : Type 0} (found x : X) → Some found ≡ Some x → found ≡ x
same_some found x is = cc

-- what is found is among them and passes
pub record Found {X : Type 0} (p : X → Bool) (xs : List X) (x : X) : Type 0 where
  pub there : Contains xs x
  pub is : p x ≡ true

found_step : {X : Type 0} (p : X → Bool) (xs : List X) (z x : X) (b : Bool) → p z ≡ b → (find p xs ≡ Some x → Found p xs x) → cond b (Some z) (find p xs) ≡ Some x → Found p (z ∷ xs) x
found_step p xs z x true passes on is = let same = same_some z x is in record { there = (0, omega arith, same); is = subst (λ y. p y ≡ true) same passes }
found_step p xs z x false passes on is = let more = on is in record { there = (suc more.there.0, omega (arith, more.there.1), more.there.2); is = more.is }

pub found_in : {X : Type 0} (p : X → Bool) (xs : List X) (x : X) → find p xs ≡ Some x → Found p xs x
found_in p [] x is = absurd (let e = is in cc)
found_in p (z ∷ xs) x is = found_step p xs z x (p z) refl (found_in p xs x) is

-- ---- ends of connections

itself : (a : End) → is_end a a ≡ true
itself a = both (number_is a.device a.device refl) (number_is a.number a.number refl)

pub end_passes : (a b : End) → a ≡ b → is_end a b ≡ true
end_passes a b is = subst (λ (x : End). is_end a x ≡ true) is (itself a)

pub end_named : (a b : End) → is_end a b ≡ true → a ≡ b
end_named a b is =
    let parts = and_parts (b.device == a.device) (b.number == a.number) is in
    ap (λ (d : ℕ). end_at d a.number) (sym (is_number b.device a.device parts.0)) ∙ ap (λ (n : ℕ). end_at b.device n) (sym (is_number b.number a.number parts.1))

-- ---- the slots of a table

-- the slot stands among those that are numbered from here on
record StandsFrom (n : ℕ) (configs : List SlotConfig) (slots : List Slot) (place : IndexedSlot) : Type 0 where
  from : n ≤ place.number
  at : find (is_numbered place.number) (indexed_from n configs slots) ≡ Some place

cond_true : {X : Type 0} (b : Bool) (x y : X) → b ≡ true → cond b x y ≡ x
cond_true b x y is = rw is refl

cond_false : {X : Type 0} (b : Bool) (x y : X) → b ≡ false → cond b x y ≡ y
cond_false b x y is = rw is refl

number_differs : (a b : ℕ) → a < b → (a == b) ≡ false
number_differs a b less = grind (arith, nat_tests)

all_stand : (n : ℕ) (configs : List SlotConfig) (slots : List Slot) → AllByRecursion (StandsFrom n configs slots) (indexed_from n configs slots)
all_stand n [] slots = tt
all_stand n (config ∷ configs) [] = tt
all_stand n (config ∷ configs) (slot ∷ slots) = (
  record { from = omega arith; at = cond_true (n == n) (Some (here n config slot)) (find (is_numbered n) (indexed_from (suc n) configs slots)) (number_is n n refl) },
  later (indexed_from (suc n) configs slots) (all_stand (suc n) configs slots),
) where
  here : ℕ → SlotConfig → Slot → IndexedSlot
  here n config slot = record { number = n; config = config; slot = slot }

  later : (xs : List IndexedSlot) → AllByRecursion (StandsFrom (suc n) configs slots) xs → AllByRecursion (StandsFrom n (config ∷ configs) (slot ∷ slots)) xs
  later [] all = tt
  later (x ∷ xs) all = let stands = all.0 in (
    record {
      from = omega (arith, stands.from);
      at = cond_false (n == x.number) (Some (here n config slot)) (find (is_numbered x.number) (indexed_from (suc n) configs slots)) (number_differs n x.number (omega (arith, stands.from))) ∙ stands.at;
    },
    later xs all.1,
  )

-- each slot that is the one of its number passes
pub slots_pass : (t : ScannerTable) (test : IndexedSlot → Bool) → ((place : IndexedSlot) → slot_at t place.number ≡ Some place → test place ≡ true) → list_all test (indexed_slots t) ≡ true
slots_pass t test passes = all_pass (StandsFrom 0 t.profile.slots t.slots) test (λ place stands. passes place stands.at) (indexed_slots t) (all_stand 0 t.profile.slots t.slots)

-- the slot of a number is among them
pub slot_among : (t : ScannerTable) (number : ℕ) (place : IndexedSlot) → slot_at t number ≡ Some place → Contains (indexed_slots t) place
slot_among t number place is = let found = found_in (is_numbered number) (indexed_slots t) place is in found.there

pub number_found : (number : ℕ) (found : Option ℕ) → has_number number found ≡ true → found ≡ Some number
number_found number None is = absurd (let e = is in cc)
number_found number (Some n) is = ap Some (is_number n number is)

pub ids_same : (a b : ConnId) → a ≡ b → (a.0 == b.0) ≡ true
ids_same a b is = number_is a.0 b.0 (ap (λ (id : ConnId). id.0) is)
