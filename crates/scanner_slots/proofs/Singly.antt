-- Bounds that hold of the slot of each number.
use Rattle.std.proofs.Common.{◌≡◌, ℕ, suc, Bool, true, false, cond, List, [], ◌∷◌, find, slice_get, Some, refl, ◌∙◌, subst}
use Rattle.scanner_table.specs.declared.profile.SlotConfig.{SlotConfig}
use Rattle.scanner_table.specs.declared.slot.Slot.{Slot}
use Rattle.scanner_table.specs.declared.table.ScannerTable.{ScannerTable}
use Rattle.scanner_table.specs.declared.table.TargetStream.{TargetStream}
use Rattle.scanner_table.specs.Slots.{IndexedSlot, indexed_from, indexed_slots, is_numbered, slot_at}
use Rattle.scanner_slots.specs.declared.bounds.Bounds.{Bounds}
use Rattle.scanner_slots.specs.Bounding.{has_target, IsBounded, IsBoundedAt, AreBounded, IsHinted, IsNoLater}
use Rattle.scanner_slots.proofs.Bounded.{earlier_one}
use Rattle.scanner_slots.proofs.SlotLemmas.{both}

some_is : {A : Type 0} (a b : A) → Some a ≡ Some b → a ≡ b
some_is a b is = cc

-- ---- a slot that a lookup finds

found_step : (b : Bool) (bounds : Bounds) (streams : List TargetStream) (test : IndexedSlot → Bool) (first indexed : IndexedSlot) (rest : List IndexedSlot) → cond b (Some first) (find test rest) ≡ Some indexed → IsBounded bounds (has_target streams first) first → (find test rest ≡ Some indexed → IsBounded bounds (has_target streams indexed) indexed) → IsBounded bounds (has_target streams indexed) indexed
found_step true bounds streams test first indexed rest is one more = subst (λ (i : IndexedSlot). IsBounded bounds (has_target streams i) i) (some_is first indexed is) one
found_step false bounds streams test first indexed rest is one more = more is

found_bounded : (bounds : Bounds) (streams : List TargetStream) (test : IndexedSlot → Bool) (all : List IndexedSlot) (indexed : IndexedSlot) → AreBounded bounds (has_target streams) all → find test all ≡ Some indexed → IsBounded bounds (has_target streams indexed) indexed
found_bounded bounds streams test [] indexed hold is = absurd cc
found_bounded bounds streams test (first ∷ rest) indexed hold is =
    found_step (test first) bounds streams test first indexed rest is hold.0 (found_bounded bounds streams test rest indexed hold.1)

pub each_bounded : (bounds : Bounds) (t : ScannerTable) (number : ℕ) → IsHinted bounds t → IsBoundedAt bounds t number
each_bounded bounds t number hinted indexed is = found_bounded bounds t.streams (is_numbered number) (indexed_slots t) indexed hinted.slots is

pub earlier_bounded : (bounds later : Bounds) (t : ScannerTable) (number : ℕ) → IsNoLater bounds later → IsBoundedAt later t number → IsBoundedAt bounds t number
earlier_bounded bounds later t number le at indexed is = earlier_one bounds later (has_target t.streams indexed) indexed le (at indexed is)

-- the slot of a number is bounded by bounds no later than its times
pub narrowed_here : (result times : Bounds) (t : ScannerTable) (number : ℕ) (streams : List TargetStream) (here : IndexedSlot) → streams ≡ t.streams → Some here ≡ slot_at t number → IsNoLater result times → IsBounded times (has_target streams here) here → IsBoundedAt result t number
narrowed_here result times t number streams here same found le one indexed is =
    let one' : IsBounded times (has_target t.streams here) here = subst (λ (s : List TargetStream). IsBounded times (has_target s here) here) same one in
    subst (λ (i : IndexedSlot). IsBounded result (has_target t.streams i) i) (some_is here indexed (found ∙ is)) (earlier_one result times (has_target t.streams here) here le one')

-- ---- all slots

-- the number of a slot is no part of its times
renumbered : (bounds : Bounds) (streams : List TargetStream) (number other : ℕ) (config : SlotConfig) (slot : Slot) → IsBounded bounds (has_target streams (record { number = number; config = config; slot = slot })) (record { number = number; config = config; slot = slot }) → IsBounded bounds (has_target streams (record { number = other; config = config; slot = slot })) (record { number = other; config = config; slot = slot })
renumbered bounds streams number other config slot one = record { deadlines = one.deadlines; retries = one.retries; dues = one.dues }

all_from : (bounds : Bounds) (streams : List TargetStream) (from : ℕ) (configs : List SlotConfig) (slots : List Slot) → ((index : ℕ) (config : SlotConfig) (slot : Slot) → slice_get configs index ≡ Some config → slice_get slots index ≡ Some slot → IsBounded bounds (has_target streams (record { number = index; config = config; slot = slot })) (record { number = index; config = config; slot = slot })) → AreBounded bounds (has_target streams) (indexed_from from configs slots)
all_from bounds streams from [] slots each = tt
all_from bounds streams from (config ∷ configs) [] each = tt
all_from bounds streams from (config ∷ configs) (slot ∷ slots) each =
    (renumbered bounds streams 0 from config slot (each 0 config slot refl refl), all_from bounds streams (suc from) configs slots (λ index c s is at. renumbered bounds streams (suc index) index c s (each (suc index) c s is at)))

pub all_bounded : (bounds : Bounds) (t : ScannerTable) → ((number : ℕ) → IsBoundedAt bounds t number) → IsHinted bounds t
all_bounded bounds t each = record {
  slots = all_from bounds t.streams 0 t.profile.slots t.slots (λ index config slot is at. each index _ (both index t.profile.slots t.slots config slot is at));
}
