-- The slot of a number.
use Rattle.std.proofs.Common.{◌≡◌, Bool, true, false, ◌<◌, ℕ, zero, suc, ◌+◌, ◌==◌, List, [], ◌∷◌, find, slice_get, get_or, length, drop, drop-cons, min, cond, ◌++◌, filter, ◌≤◌, Option, subst, Some, None, refl, sym, ◌∙◌, ap, arith}
use Rattle.std.proofs.lemmas.Bool.Decides.{nat_tests}
use Rattle.std.proofs.lemmas.List.{append-nil}
use Rattle.std.proofs.lemmas.Option.{slice_get-get_or, slice_get_past}
use Rattle.std.specs.List.{list_any}
use Rattle.scanner_table.specs.declared.profile.SlotConfig.{SlotConfig}
use Rattle.scanner_table.specs.declared.slot.Slot.{Slot}
use Rattle.scanner_table.specs.Slots.{IndexedSlot, indexed_from, is_numbered}

-- the indexed slot of a configuration and a slot, if both are there
abbrev pub indexed_at : ℕ → Option SlotConfig → Option Slot → Option IndexedSlot
indexed_at number None slot = None
indexed_at number (Some config) None = None
indexed_at number (Some config) (Some slot) = Some (record { number = number; config = config; slot = slot })

found_from : (number index from : ℕ) (configs : List SlotConfig) (slots : List Slot) → number ≡ from + index → find (is_numbered number) (indexed_from from configs slots) ≡ indexed_at number (slice_get configs index) (slice_get slots index)
found_from number index from [] slots is = refl
found_from number zero from (config ∷ configs) [] is = refl
found_from number (suc index) from (config ∷ configs) [] is = elim (slice_get configs index) as (λ o. None ≡ indexed_at number o None) [ None ↦ refl | Some c ↦ refl ]
found_from number zero from (config ∷ configs) (slot ∷ slots) is =
    let same : from ≡ number = omega (arith, is) in
    let here : (number == number) ≡ true = grind (arith, nat_tests) in
    rw (same, here) refl
found_from number (suc index) from (config ∷ configs) (slot ∷ slots) is =
    let other : (from == number) ≡ false = grind (arith, nat_tests, is) in
    rw other (found_from number index (suc from) configs slots (omega (arith, is)))

-- the indexed slot of a number has the configuration and the slot of that index
pub found_at : (number : ℕ) (configs : List SlotConfig) (slots : List Slot) → find (is_numbered number) (indexed_from 0 configs slots) ≡ indexed_at number (slice_get configs number) (slice_get slots number)
found_at number configs slots = found_from number number 0 configs slots (omega arith)

pub no_config : (number : ℕ) (configs : List SlotConfig) (slots : List Slot) → slice_get configs number ≡ None → find (is_numbered number) (indexed_from 0 configs slots) ≡ None
no_config number configs slots is = found_at number configs slots ∙ ap (λ o. indexed_at number o (slice_get slots number)) is

pub no_slot : (number : ℕ) (configs : List SlotConfig) (slots : List Slot) → slice_get slots number ≡ None → find (is_numbered number) (indexed_from 0 configs slots) ≡ None
no_slot number configs slots is = found_at number configs slots ∙ ap (indexed_at number (slice_get configs number)) is ∙ nothing (slice_get configs number) where
  nothing : (o : Option SlotConfig) → indexed_at number o None ≡ None
  nothing None = refl
  nothing (Some config) = refl

pub both : (number : ℕ) (configs : List SlotConfig) (slots : List Slot) (config : SlotConfig) (slot : Slot) → slice_get configs number ≡ Some config → slice_get slots number ≡ Some slot → find (is_numbered number) (indexed_from 0 configs slots) ≡ Some (record { number = number; config = config; slot = slot })
both number configs slots config slot is there = found_at number configs slots ∙ ap (λ o. indexed_at number o (slice_get slots number)) is ∙ ap (indexed_at number (Some config)) there

pub few_configs : (number : ℕ) (configs : List SlotConfig) (slots : List Slot) → length configs ≤ number → find (is_numbered number) (indexed_from 0 configs slots) ≡ None
few_configs number configs slots le = no_config number configs slots (slice_get_past configs number le)

pub few_slots : (number : ℕ) (configs : List SlotConfig) (slots : List Slot) → length slots ≤ number → find (is_numbered number) (indexed_from 0 configs slots) ≡ None
few_slots number configs slots le = no_slot number configs slots (slice_get_past slots number le)

pub at_index : (number : ℕ) (configs : List SlotConfig) (slots : List Slot) (config d : SlotConfig) (slot e : Slot) → number < length configs → number < length slots → config ≡ get_or configs number d → slot ≡ get_or slots number e → Some (record { number = number; config = config; slot = slot }) ≡ find (is_numbered number) (indexed_from 0 configs slots)
at_index number configs slots config d slot e lt lt' is is' =
    sym (both number configs slots config slot (slice_get-get_or configs number d lt ∙ ap (λ c. Some c) (sym is)) (slice_get-get_or slots number e lt' ∙ ap (λ c. Some c) (sym is')))

-- ---- the slots from a number on

-- the first of them is the slot of the number, and the others follow
pub rest_begins : (index : ℕ) (configs : List SlotConfig) (slots : List Slot) (d : SlotConfig) (e : Slot) → index < length configs → index < length slots → indexed_from index (drop index configs) (drop index slots) ≡ record { number = index; config = get_or configs index d; slot = get_or slots index e } ∷ indexed_from (suc index) (drop (suc index) configs) (drop (suc index) slots)
rest_begins index configs slots d e lt lt' = rw (drop-cons configs index d lt, drop-cons slots index e lt') refl

no_slots : (number : ℕ) (configs : List SlotConfig) → indexed_from number configs [] ≡ []
no_slots number [] = refl
no_slots number (config ∷ configs) = refl

ends_from : (number index : ℕ) (configs : List SlotConfig) (slots : List Slot) → min (length configs) (length slots) ≤ index → indexed_from number (drop index configs) (drop index slots) ≡ []
ends_from number zero [] slots le = refl
ends_from number (suc index) [] slots le = refl
ends_from number zero (config ∷ configs) [] le = refl
ends_from number (suc index) (config ∷ configs) [] le = no_slots number (drop index configs)
ends_from number zero (config ∷ configs) (slot ∷ slots) le = absurd (omega (arith, le))
ends_from number (suc index) (config ∷ configs) (slot ∷ slots) le = ends_from number index configs slots (omega (arith, le))

-- none is left at the end of either list
pub rest_ends : (index : ℕ) (configs : List SlotConfig) (slots : List Slot) → min (length configs) (length slots) ≤ index → indexed_from index (drop index configs) (drop index slots) ≡ []
rest_ends index configs slots le = ends_from index index configs slots le

-- ---- searches

pub none_found : (test : IndexedSlot → Bool) (all : List IndexedSlot) (index : ℕ) (configs : List SlotConfig) (slots : List Slot) → min (length configs) (length slots) ≤ index → find test all ≡ find test (indexed_from index (drop index configs) (drop index slots)) → None ≡ find test all
none_found test all index configs slots le so_far = sym (so_far ∙ ap (find test) (rest_ends index configs slots le))

pub none_passes : (test : IndexedSlot → Bool) (all : List IndexedSlot) (index : ℕ) (configs : List SlotConfig) (slots : List Slot) → min (length configs) (length slots) ≤ index → list_any test all ≡ list_any test (indexed_from index (drop index configs) (drop index slots)) → false ≡ list_any test all
none_passes test all index configs slots le so_far = sym (so_far ∙ ap (list_any test) (rest_ends index configs slots le))

-- ---- gathering

pub all_gathered : (test : IndexedSlot → Bool) (front all : List IndexedSlot) (index : ℕ) (configs : List SlotConfig) (slots : List Slot) → min (length configs) (length slots) ≤ index → front ++ filter test (indexed_from index (drop index configs) (drop index slots)) ≡ all → front ≡ all
all_gathered test front all index configs slots le so_far = sym (append-nil front) ∙ ap (λ l. front ++ l) (sym (ap (filter test) (rest_ends index configs slots le))) ∙ so_far

-- ---- slots that lookups find, and slots that change

some_is : {A : Type 0} (a b : A) → Some a ≡ Some b → a ≡ b
some_is a b is = cc

-- an indexed slot is in two lists, whose first elements have a number
pub record StandsAt (from : ℕ) (configs : List SlotConfig) (slots : List Slot) (indexed : IndexedSlot) : Type 0 where
  pub index : ℕ
  pub number : indexed.number ≡ from + index
  pub config : slice_get configs index ≡ Some indexed.config
  pub slot : slice_get slots index ≡ Some indexed.slot

later_stands : (from : ℕ) (config : SlotConfig) (configs : List SlotConfig) (slot : Slot) (slots : List Slot) (indexed : IndexedSlot) → StandsAt (suc from) configs slots indexed → StandsAt from (config ∷ configs) (slot ∷ slots) indexed
later_stands from config configs slot slots indexed stands = record { index = suc stands.index; number = stands.number ∙ omega arith; config = stands.config; slot = stands.slot }

stands_step : (b : Bool) (from : ℕ) (config : SlotConfig) (configs : List SlotConfig) (slot : Slot) (slots : List Slot) (indexed : IndexedSlot) (rest : Option IndexedSlot) → cond b (Some (record { number = from; config = config; slot = slot })) rest ≡ Some indexed → (rest ≡ Some indexed → StandsAt (suc from) configs slots indexed) → StandsAt from (config ∷ configs) (slot ∷ slots) indexed
stands_step true from config configs slot slots indexed rest is more =
    subst (StandsAt from (config ∷ configs) (slot ∷ slots)) (some_is _ indexed is) (record { index = 0; number = omega arith; config = refl; slot = refl })
stands_step false from config configs slot slots indexed rest is more = later_stands from config configs slot slots indexed (more is)

found_stands : (test : IndexedSlot → Bool) (from : ℕ) (configs : List SlotConfig) (slots : List Slot) (indexed : IndexedSlot) → find test (indexed_from from configs slots) ≡ Some indexed → StandsAt from configs slots indexed
found_stands test from [] slots indexed is = absurd cc
found_stands test from (config ∷ configs) [] indexed is = absurd cc
found_stands test from (config ∷ configs) (slot ∷ slots) indexed is =
    stands_step (test (record { number = from; config = config; slot = slot })) from config configs slot slots indexed (find test (indexed_from (suc from) configs slots)) is (found_stands test (suc from) configs slots indexed)

pub found_slot : (test : IndexedSlot → Bool) (configs : List SlotConfig) (slots : List Slot) (indexed : IndexedSlot) → find test (indexed_from 0 configs slots) ≡ Some indexed → (slice_get configs indexed.number ≡ Some indexed.config) × (slice_get slots indexed.number ≡ Some indexed.slot)
found_slot test configs slots indexed is =
    let stands = found_stands test 0 configs slots indexed is in
    let same : stands.index ≡ indexed.number = omega (arith, stands.number) in
    (subst (λ n. slice_get configs n ≡ Some indexed.config) same stands.config, subst (λ n. slice_get slots n ≡ Some indexed.slot) same stands.slot)
