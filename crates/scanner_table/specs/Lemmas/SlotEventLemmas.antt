-- Events that change no more than slots and the mode: datagrams, writes, changes of mode, and all that leave the table as it is.
-- They send nothing, and streams, sessions, ids, next numbers and clock stay.
use Rattle.std.proofs.Common.{◌≡◌, ℕ, ◌==◌, Bool, true, false, List, length, find, Option, Some, None, Result, Ok, Err, refl}
use Rattle.cip_types.specs.declared.names.Node.{Node}
use Rattle.cip_datagram.specs.declared.datagram.DatagramFault.{DatagramFault}
use Rattle.cip_datagram.specs.Datagram.{DatagramFields}
use Rattle.cip_datagram.specs.Reading.{datagram_reading}
use Rattle.cip_events.specs.declared.event.Delivery.{Delivery}
use Rattle.cip_events.specs.declared.event.Delivery.TheVariants.{Applied, Duplicate, Old, UnknownId, WrongSize, Malformed}
use Rattle.cip_events.specs.declared.event.Event.{Event}
use Rattle.cip_events.specs.declared.event.Event.TheVariants.{StreamOpened, Frame, StreamCut, Datagram, Write, Tick, Mode, Start, Stop, Explicit, Ids}
use Rattle.cip_events.specs.declared.event.StepFault.{StepFault}
use Rattle.cip_events.specs.declared.event.StepFault.TheVariants.{NoSuchSlot, NotAllowedNow, WrongLength}
use Rattle.cip_events.specs.declared.event.Verdict.{Verdict}
use Rattle.cip_events.specs.declared.event.Verdict.TheVariants.{Delivered, Done}
use Rattle.cip_events.specs.Answers.{plain_answer}
use Rattle.cip_productions.specs.Acceptance.{is_duplicate}
use Rattle.cip_productions.specs.Kinds.{is_owner}
use Rattle.scanner_table.specs.declared.slot.Slot.{Slot}
use Rattle.scanner_table.specs.declared.slot.SlotConnection.{SlotConnection}
use Rattle.scanner_table.specs.declared.slot.SlotState.{SlotState}
use Rattle.scanner_table.specs.declared.slot.SlotState.TheVariants.{Established}
use Rattle.scanner_table.specs.declared.table.ScannerTable.{ScannerTable}
use Rattle.scanner_table.specs.Effects.{Next}
use Rattle.scanner_table.specs.Slots.{IndexedSlot, indexed_slots, slot_at, with_slot}
use Rattle.scanner_table.specs.Datagrams.{accepts_at, is_for, accepted_table, delivered, accepted, sized, connected, state_received, received_at, received_as, received}
use Rattle.scanner_table.specs.Points.{output_slot, output_written, write_length, write_at, write, same_mode, moded_table, mode}
use Rattle.cip_types.specs.declared.ids.IdBlock.{IdBlock}
use Rattle.cip_types.specs.Ids.{may_take}
use Rattle.scanner_table.specs.Step.{scanner_step, taken_table, take_ids}
use Rattle.scanner_table.specs.Lemmas.PassiveLemmas.{passive_holds}
use Rattle.std.proofs.lemmas.Bool.{cond_both}
use Rattle.base_lemmas.specs.Booleans.{either}

-- the later table differs in slots, in the mode and in further ids alone
pub record DiffersInSlots (t u : ScannerTable) : Type 0 where
  pub profile : u.profile ≡ t.profile
  pub clock : u.clock ≡ t.clock
  pub next_id : u.next_id ≡ t.next_id
  pub next_serial : u.next_serial ≡ t.next_serial
  pub next_request : u.next_request ≡ t.next_request
  pub streams : u.streams ≡ t.streams
  pub explicit : u.explicit ≡ t.explicit

-- what holds of a table that so differs, with each verdict
abbrev pub HoldsForSlots : (Next → Type 0) → ScannerTable → Type 0
HoldsForSlots P t = (verdict : Verdict) (u : ScannerTable) → DiffersInSlots t u → P (plain_answer verdict, u)

itself : (t : ScannerTable) → DiffersInSlots t t
itself t = record { profile = refl; clock = refl; next_id = refl; next_serial = refl; next_request = refl; streams = refl; explicit = refl }

set : (t : ScannerTable) (number : ℕ) (slot : Slot) → DiffersInSlots t (with_slot t number slot)
set t number slot = record { profile = refl; clock = refl; next_id = refl; next_serial = refl; next_request = refl; streams = refl; explicit = refl }

moded : (t : ScannerTable) (run : Bool) → DiffersInSlots t (moded_table t run)
moded t run = record { profile = refl; clock = refl; next_id = refl; next_serial = refl; next_request = refl; streams = refl; explicit = refl }

grown : (t : ScannerTable) (block : IdBlock) → DiffersInSlots t (taken_table t block)
grown t block = record { profile = refl; clock = refl; next_id = refl; next_serial = refl; next_request = refl; streams = refl; explicit = refl }

-- ---- datagrams

unfed : (P : Next → Type 0) (t : ScannerTable) → HoldsForSlots P t → (delivery : Delivery) → P (delivered delivery t)
unfed P t holds delivery = holds (Delivered delivery) t (itself t)

fed : (P : Next → Type 0) (t : ScannerTable) → HoldsForSlots P t → (indexed : IndexedSlot) (d : DatagramFields) (c : SlotConnection) (bytes : List ℕ) (delivery : Delivery) → P (delivered delivery (accepted_table t indexed d c bytes))
fed P t holds indexed d c bytes delivery = holds (Delivered delivery) (accepted_table t indexed d c bytes) (set t indexed.number _)

connected_holds : (P : Next → Type 0) (t : ScannerTable) → HoldsForSlots P t → (indexed : IndexedSlot) (d : DatagramFields) (c : SlotConnection) → P (connected t indexed d c)
connected_holds P t holds indexed d c =
    either P (length d.payload == indexed.config.in_len) (sized t indexed d c) (delivered WrongSize t)
    (either P (accepts_at t indexed c d.sequence) (accepted t indexed d c) (delivered Old t)
    (either P (is_duplicate c.last d.count) (delivered Duplicate (accepted_table t indexed d c indexed.slot.image)) (delivered Applied (accepted_table t indexed d c d.payload))
    (fed P t holds indexed d c indexed.slot.image Duplicate) (fed P t holds indexed d c d.payload Applied))
    (unfed P t holds Old))
    (unfed P t holds WrongSize)

state_holds : (P : Next → Type 0) (t : ScannerTable) → HoldsForSlots P t → (indexed : IndexedSlot) (d : DatagramFields) (state : SlotState) → P (state_received t indexed d state)
state_holds P t holds indexed d (Established c) = connected_holds P t holds indexed d c
state_holds P t holds indexed d other = unfed P t holds UnknownId

found_holds : (P : Next → Type 0) (t : ScannerTable) → HoldsForSlots P t → (d : DatagramFields) (found : Option IndexedSlot) → P (received_at t d found)
found_holds P t holds d None = unfed P t holds UnknownId
found_holds P t holds d (Some indexed) = state_holds P t holds indexed d indexed.slot.state

datagram_holds : (P : Next → Type 0) (t : ScannerTable) → HoldsForSlots P t → (peer : Node) (reading : Result DatagramFields DatagramFault) → P (received_as t peer reading)
datagram_holds P t holds peer (Err why) = unfed P t holds Malformed
datagram_holds P t holds peer (Ok d) = found_holds P t holds d (find (is_for peer d.connection) (indexed_slots t))

-- ---- writes

write_holds : (Q : Result Next StepFault → Type 0) (t : ScannerTable) → ((why : StepFault) → Q (Err why)) → HoldsForSlots (λ next. Q (Ok next)) t → (bytes : List ℕ) (found : Option IndexedSlot) → Q (write_at t bytes found)
write_holds Q t refused holds bytes None = refused NoSuchSlot
write_holds Q t refused holds bytes (Some indexed) =
    either Q (is_owner indexed.config.kind) (write_length t indexed bytes) (Err NotAllowedNow)
    (either Q (length bytes == indexed.config.out_len) (Ok (output_written t indexed bytes)) (Err WrongLength)
    (holds Done (with_slot t indexed.number (output_slot bytes indexed.slot)) (set t indexed.number (output_slot bytes indexed.slot)))
    (refused WrongLength))
    (refused NotAllowedNow)

-- ---- events

-- what holds of each fault, and of the table with the further block of ids and no more than a verdict, holds after that event
pub ids_hold : (Q : Result Next StepFault → Type 0) (t : ScannerTable) (block : IdBlock) → ((why : StepFault) → Q (Err why)) → (may_take t.ids block ≡ true → Q (Ok (plain_answer Done, taken_table t block))) → Q (scanner_step t (Ids block))
unfolding take_ids
ids_hold Q t block refused holds = cond_both (may_take t.ids block) (Ok (plain_answer Done, taken_table t block)) (Err NotAllowedNow) Q holds (λ full. refused NotAllowedNow)

-- the event can change more than slots, the mode and the ids, or send requests
abbrev pub changes_more : Event → Bool
changes_more (StreamOpened stream peer) = true
changes_more (Frame stream bytes) = true
changes_more (StreamCut stream) = true
changes_more (Tick ms) = true
changes_more (Start slot) = true
changes_more (Stop slot) = true
changes_more (Explicit target number bytes) = true
changes_more other = false

pub slots_hold : (Q : Result Next StepFault → Type 0) (t : ScannerTable) → ((why : StepFault) → Q (Err why)) → HoldsForSlots (λ next. Q (Ok next)) t → (event : Event) → changes_more event ≡ false → Q (scanner_step t event)
unfolding received write mode
slots_hold Q t refused holds (StreamOpened stream peer) more = absurd (let e = more in cc)
slots_hold Q t refused holds (Frame stream bytes) more = absurd (let e = more in cc)
slots_hold Q t refused holds (StreamCut stream) more = absurd (let e = more in cc)
slots_hold Q t refused holds (Datagram peer bytes) more = datagram_holds (λ next. Q (Ok next)) t holds peer (datagram_reading bytes)
slots_hold Q t refused holds (Write point bytes) more = write_holds Q t refused holds bytes (slot_at t point)
slots_hold Q t refused holds (Tick ms) more = absurd (let e = more in cc)
slots_hold Q t refused holds (Mode run) more =
    either (λ (u : ScannerTable). Q (Ok (plain_answer Done, u))) (same_mode run t.run) t (moded_table t run) (holds Done t (itself t)) (holds Done (moded_table t run) (moded t run))
slots_hold Q t refused holds (Start slot) more = absurd (let e = more in cc)
slots_hold Q t refused holds (Stop slot) more = absurd (let e = more in cc)
slots_hold Q t refused holds (Explicit target number bytes) more = absurd (let e = more in cc)
slots_hold Q t refused holds (Ids block) more = ids_hold Q t block refused (λ may. holds Done (taken_table t block) (grown t block))
slots_hold Q t refused holds other more = passive_holds Q t refused (λ verdict. holds verdict t (itself t)) other refl
