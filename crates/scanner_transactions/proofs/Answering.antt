-- The answer of a transaction that began with the table, and the slot that a lookup found.
use Rattle.std.proofs.Common.{◌≡◌, ℕ, Bool, true, false, cond, List, [], ◌∷◌, find, Option, Some, sym, ◌∙◌, ap, subst}
use Rattle.scanner_table.specs.declared.table.ScannerTable.{ScannerTable}
use Rattle.scanner_table.specs.declared.profile.SlotConfig.{SlotConfig}
use Rattle.scanner_table.specs.declared.slot.Slot.{Slot}
use Rattle.scanner_table.specs.Slots.{IndexedSlot, indexed_slots, indexed_from, slot_at}
use Rattle.scanner_table.specs.Effects.{Effect, done}
use Rattle.cip_encap.specs.Message.{MessageFields}
use Rattle.scanner_table.specs.declared.slot.SlotState.{SlotState}
use Rattle.scanner_table.specs.Encapsulation.{replied, replied_to}
use Rattle.scanner_transactions.specs.Transactions.{Progress, begun, followed, at_found, after_at}
use Rattle.scanner_transactions.specs.MessageOutcomes.{progress_next}
use Rattle.scanner_transactions.proofs.SlotNumbers.{Each, StandsIn, slots_stand}

pub is_done : (t : ScannerTable) (effect : Effect) (d : Progress) → d ≡ followed (begun t) effect → progress_next d ≡ done effect
is_done t effect d is = ap progress_next is

-- an effect on a slot that is one of the table's
pub slot_done : (effect : ScannerTable → IndexedSlot → Effect) (t : ScannerTable) (indexed : IndexedSlot) (number : ℕ) (start now : Progress) → slot_at t number ≡ Some indexed → start ≡ begun t → now ≡ after_at effect number start → progress_next now ≡ done (effect t indexed)
slot_done effect t indexed number start now stands is made =
    is_done t (effect t indexed) now (made ∙ ap (after_at effect number) is ∙ ap (λ (o : Option IndexedSlot). followed (begun t) (at_found effect t o)) stands)

-- an effect on the table
pub table_done : (effect : ScannerTable → Effect) (t : ScannerTable) (start now : Progress) → start ≡ begun t → now ≡ followed start (effect start.table) → progress_next now ≡ done (effect t)
table_done effect t start now is made = is_done t (effect t) now (made ∙ ap (λ (d : Progress). followed d (effect d.table)) is)

find_each : (P : IndexedSlot → Type 0) (test : IndexedSlot → Bool) (b : Bool) (first indexed : IndexedSlot) (rest : Option IndexedSlot) → P first → (rest ≡ Some indexed → P indexed) → cond b (Some first) rest ≡ Some indexed → P indexed
find_each P test true first indexed rest is later e = let same : first ≡ indexed = cc in subst P same is
find_each P test false first indexed rest is later e = later e

each_found : (P : IndexedSlot → Type 0) (test : IndexedSlot → Bool) (all : List IndexedSlot) (indexed : IndexedSlot) → Each P all → find test all ≡ Some indexed → P indexed
each_found P test [] indexed each e = absurd cc
each_found P test (first ∷ rest) indexed each e = find_each P test (test first) first indexed (find test rest) each.0 (each_found P test rest indexed each.1) e

-- a slot that a lookup found is one of its table's
found_stands : (t : ScannerTable) (test : IndexedSlot → Bool) (indexed : IndexedSlot) → Some indexed ≡ find test (indexed_slots t) → slot_at t indexed.number ≡ Some indexed
found_stands t test indexed is = each_found (StandsIn t) test (indexed_slots t) indexed (slots_stand t).each (sym is)

-- the same by the lists that were searched
pub searched_stands : (t : ScannerTable) (test : IndexedSlot → Bool) (configs : List SlotConfig) (slots : List Slot) (indexed : IndexedSlot) → configs ≡ t.profile.slots → slots ≡ t.slots → Some indexed ≡ find test (indexed_from 0 configs slots) → slot_at t indexed.number ≡ Some indexed
searched_stands t test configs slots indexed same are is =
    found_stands t test indexed (is ∙ ap (λ (cs : List SlotConfig). find test (indexed_from 0 cs slots)) same ∙ ap (λ (ss : List Slot). find test (indexed_from 0 t.profile.slots ss)) are)

-- the slot that waits for the message, by the lists that were searched
pub searched_is : (t : ScannerTable) (test : IndexedSlot → Bool) (configs : List SlotConfig) (slots : List Slot) (indexed : IndexedSlot) → configs ≡ t.profile.slots → slots ≡ t.slots → Some indexed ≡ find test (indexed_from 0 configs slots) → Some indexed ≡ find test (indexed_slots t)
searched_is t test configs slots indexed same are is =
    is ∙ ap (λ (cs : List SlotConfig). find test (indexed_from 0 cs slots)) same ∙ ap (λ (ss : List Slot). find test (indexed_from 0 t.profile.slots ss)) are

-- the reply at a slot that was found in this state
pub awaited : (t : ScannerTable) (m : MessageFields) (indexed : IndexedSlot) (state : SlotState) (found : Option IndexedSlot) → Some indexed ≡ found → indexed.slot.state ≡ state → replied t indexed m state ≡ replied_to t m found
awaited t m indexed state found is at = ap (replied t indexed m) (sym at) ∙ ap (replied_to t m) is
