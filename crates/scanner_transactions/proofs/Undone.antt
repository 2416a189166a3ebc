-- A change that is kept can be undone.
use Rattle.std.proofs.Common.{◌≡◌, ◌<◌, ◌≤◌, ℕ, zero, suc, List, [], ◌∷◌, ◌++◌, length, slice_get, slice_set, Option, Some, None, refl, sym, ◌∙◌, ap, arith}
use Rattle.std.specs.Option.{ForSome}
use Rattle.scanner_table.specs.declared.slot.Slot.{Slot}
use Rattle.scanner_table.specs.declared.slot.SlotState.{SlotState}
use Rattle.scanner_transactions.specs.declared.changes.SlotChange.{SlotChange}
use Rattle.scanner_transactions.specs.declared.undo.SlotBefore.{SlotBefore}
use Rattle.scanner_transactions.specs.Transactions.{with_change, occupied}
use Rattle.scanner_transactions.specs.Undoing.{slot_before, kept_slot, kept_with_image, undone_at, undone_slots}
use Rattle.scanner_transactions.proofs.Found.{read_back}

-- the slots with one change undone
abbrev pub undone_one : SlotBefore → List Slot → List Slot
undone_one before slots = undone_at before slots (slice_get slots before.number)

-- the last change is undone first
pub last_first : (kept : List SlotBefore) (before : SlotBefore) (slots : List Slot) → undone_slots (kept ++ before ∷ []) slots ≡ undone_slots kept (undone_one before slots)
last_first [] before slots = refl
last_first (first ∷ kept) before slots = ap (undone_one first) (last_first kept before slots)

set_again : {A : Type 0} (xs : List A) (i : ℕ) (x y : A) → slice_get xs i ≡ Some y → slice_set (slice_set xs i x) i y ≡ xs
set_again [] i x y is = refl
set_again (z ∷ xs) zero x y is = let same : y ≡ z = cc in ap (λ v. v ∷ xs) same
set_again (z ∷ xs) (suc i) x y is = ap (λ l. z ∷ l) (set_again xs i x y is)

-- a change of the slot that was kept is undone
one_undone : (slots : List Slot) (before : SlotBefore) (old new : Slot) → before.number < length slots → slice_get slots before.number ≡ Some old → slot_before before new ≡ old → undone_one before (slice_set slots before.number new) ≡ slots
one_undone slots before old new within is back =
    ap (undone_at before (slice_set slots before.number new)) (read_back slots before.number new within)
    ∙ ap (λ (s : Slot). slice_set (slice_set slots before.number new) before.number s) back
    ∙ set_again slots before.number new old is

-- a kept change leads back to the same slots
pub leads_back : (kept longer : List SlotBefore) (slots new : List Slot) (before : SlotBefore) (old changed : Slot) → before.number < length slots → slice_get slots before.number ≡ Some old → slot_before before changed ≡ old → longer ≡ kept ++ before ∷ [] → new ≡ slice_set slots before.number changed → undone_slots longer new ≡ undone_slots kept slots
leads_back kept longer slots new before old changed within is back more set =
    ap (λ (bs : List SlotBefore). undone_slots bs new) more
    ∙ ap (undone_slots (kept ++ before ∷ [])) set
    ∙ last_first kept before (slice_set slots before.number changed)
    ∙ ap (undone_slots kept) (one_undone slots before old changed within is back)

-- the same for a change that leaves the bytes
pub change_leads_back : (kept longer : List SlotBefore) (slots new : List Slot) (number : ℕ) (old : Slot) (slot_change : SlotChange) → number < length slots → slice_get slots number ≡ Some old → longer ≡ kept ++ kept_slot number old ∷ [] → ForSome (slice_get slots number) (λ slot. new ≡ slice_set slots number (with_change slot_change slot)) → undone_slots longer new ≡ undone_slots kept slots
change_leads_back kept longer slots new number old slot_change within is more set =
    leads_back kept longer slots new (kept_slot number old) old (with_change slot_change old) within is refl more (set old is)

-- the same for a slot that has a new connection
pub connection_leads_back : (kept longer : List SlotBefore) (slots new : List Slot) (number : ℕ) (old : Slot) (state : SlotState) (image : List ℕ) → number < length slots → slice_get slots number ≡ Some old → ForSome (slice_get slots number) (λ slot. longer ≡ kept ++ kept_with_image number slot ∷ []) → ForSome (slice_get slots number) (λ slot. new ≡ slice_set slots number (occupied state image slot)) → undone_slots longer new ≡ undone_slots kept slots
connection_leads_back kept longer slots new number old state image within is more set =
    leads_back kept longer slots new (kept_with_image number old) old (occupied state image old) within is refl (more old is) (set old is)

-- ---- the way back

-- the last one is undone
pub popped : (kept rest : List SlotBefore) (before : SlotBefore) (slots : List Slot) → kept ≡ rest ++ before ∷ [] → undone_slots kept slots ≡ undone_slots rest (undone_one before slots)
popped kept rest before slots is = ap (λ (bs : List SlotBefore). undone_slots bs slots) is ∙ last_first rest before slots

none_there : {A : Type 0} (xs : List A) (i : ℕ) → i < length xs → slice_get xs i ≡ None → ⊥
none_there [] i lt e = omega (arith, lt)
none_there (x ∷ xs) zero lt e = cc
none_there (x ∷ xs) (suc i) lt e = none_there xs i (omega (arith, lt)) e

past_end : {A : Type 0} (xs : List A) (i : ℕ) → length xs ≤ i → slice_get xs i ≡ None
past_end [] i le = refl
past_end (x ∷ xs) zero le = absurd (omega (arith, le))
past_end (x ∷ xs) (suc i) le = past_end xs i (omega (arith, le))

there_case : (slots new : List Slot) (before : SlotBefore) (o : Option Slot) → before.number < length slots → slice_get slots before.number ≡ o → ForSome (slice_get slots before.number) (λ slot. new ≡ slice_set slots before.number (slot_before before slot)) → new ≡ undone_at before slots o
there_case slots new before None within is set = absurd (none_there slots before.number within is)
there_case slots new before (Some slot) within is set = set slot is

-- a change is undone at a slot that is there
pub put_there : (slots new : List Slot) (before : SlotBefore) → before.number < length slots → ForSome (slice_get slots before.number) (λ slot. new ≡ slice_set slots before.number (slot_before before slot)) → new ≡ undone_one before slots
put_there slots new before within set = there_case slots new before (slice_get slots before.number) within refl set

-- one more change is undone
pub one_back : (kept rest : List SlotBefore) (before : SlotBefore) (slots new first : List Slot) → kept ≡ rest ++ before ∷ [] → new ≡ undone_one before slots → undone_slots kept slots ≡ first → undone_slots rest new ≡ first
one_back kept rest before slots new first is back invariant = ap (undone_slots rest) back ∙ sym (popped kept rest before slots is) ∙ invariant

-- no slot is there
pub none_put : (slots : List Slot) (before : SlotBefore) → length slots ≤ before.number → slots ≡ undone_one before slots
none_put slots before past = sym (ap (undone_at before slots) (past_end slots before.number past))
