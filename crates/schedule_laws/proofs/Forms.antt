-- What a scanner produces: an owner's slot a run/idle header and its output, another slot no data.
use Rattle.std.proofs.Common.{◌≡◌, ℕ, Bool, true, false, cond, List, [], ◌∷◌, ◌++◌, ◌⊎◌, inl, inr, refl}
use Rattle.std.specs.Int.{w32, to_le_bytes}
use Rattle.std.specs.List.{AllByRecursion}
use Rattle.std.specs.Option.{IfSome}
use Rattle.cip_datagram.specs.Header.{mode_header}
use Rattle.cip_events.specs.declared.event.Event.{Event}
use Rattle.cip_events.specs.declared.event.Event.TheVariants.{Tick}
use Rattle.cip_productions.specs.Kinds.{is_owner}
use Rattle.scanner_table.specs.declared.slot.SlotState.{SlotState}
use Rattle.scanner_table.specs.declared.slot.SlotState.TheVariants.{Idle, Opening, Established, TimedOut, Closing}
use Rattle.scanner_table.specs.declared.table.ScannerTable.{ScannerTable}
use Rattle.scanner_table.specs.Productions.{due_slots}
use Rattle.scanner_table.specs.Slots.{IndexedSlot}
use Rattle.scanner_table.specs.Ticks.{clocked_table, advanced}
use Rattle.device_laws.specs.Lemmas.Lists.{all_made}
use Rattle.device_laws.specs.Made.{Made, state_made, slot_made, places_made, scanner_makes}

-- the payload is the mode and the value, or nothing
abbrev pub HasForm : Made → Type 0
HasForm m = (m.datagram.payload ≡ to_le_bytes w32 (mode_header m.run) ++ m.value) ⊎ (m.datagram.payload ≡ [])

data_form : (b : Bool) (run : Bool) (output : List ℕ) → (cond b (to_le_bytes w32 (mode_header run) ++ output) [] ≡ to_le_bytes w32 (mode_header run) ++ output) ⊎ (cond b (to_le_bytes w32 (mode_header run) ++ output) [] ≡ [])
data_form true run output = inl refl
data_form false run output = inr refl

state_form : (run : Bool) (place : IndexedSlot) (state : SlotState) → IfSome (state_made run place state) HasForm
state_form run place Idle = tt
state_form run place (Opening o) = tt
state_form run place (Established c) = data_form (is_owner place.config.kind) run place.slot.output
state_form run place (TimedOut link) = tt
state_form run place (Closing c) = tt

abbrev AnySlot : IndexedSlot → Type 0
AnySlot place = Unit {0}

all_any : (all : List IndexedSlot) → AllByRecursion AnySlot all
all_any [] = tt
all_any (place ∷ all) = (tt, all_any all)

slots_form : (t : ScannerTable) → AllByRecursion HasForm (places_made t)
slots_form t = all_made AnySlot HasForm (slot_made t.run) (λ place any. state_form t.run place place.slot.state) (due_slots t) (all_any (due_slots t))

pub scanner_forms : (t : ScannerTable) (event : Event) → AllByRecursion HasForm (scanner_makes t event)
scanner_forms t (Tick ms) = slots_form (advanced (clocked_table t ms)).table
scanner_forms t other = tt
