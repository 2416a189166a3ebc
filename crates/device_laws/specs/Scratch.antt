-- The image and the output of a slot, computed from the events alone: the bytes that the last event which touched them left
-- (Volume 1, chapter 3, class 1 transport).
use Rattle.std.specs.Prelude.{ℕ, ◌≡◌, ◌==◌, ◌&&◌, not, Bool, true, false, if◌then◌else◌, List, [], ◌∷◌, find, replicate, unwrap_or, Option, Some, None, Result, Ok, Err}
use Rattle.cip_types.specs.declared.names.Node.{Node}
use Rattle.cip_datagram.specs.declared.datagram.DatagramFault.{DatagramFault}
use Rattle.cip_datagram.specs.Datagram.{DatagramFields}
use Rattle.cip_datagram.specs.Reading.{datagram_reading}
use Rattle.cip_events.specs.declared.event.Event.{Event}
use Rattle.cip_events.specs.declared.event.Event.TheVariants.{Datagram, Write}
use Rattle.cip_events.specs.declared.event.StepFault.{StepFault}
use Rattle.cip_events.specs.declared.event.Verdict.{Verdict}
use Rattle.scanner_table.specs.declared.profile.ScannerProfile.{ScannerProfile}
use Rattle.scanner_table.specs.declared.slot.SlotState.{SlotState}
use Rattle.scanner_table.specs.declared.slot.SlotState.TheVariants.{Idle, Opening, Established, TimedOut, Closing}
use Rattle.scanner_table.specs.declared.table.ScannerTable.{ScannerTable}
use Rattle.scanner_table.specs.Slots.{IndexedSlot, indexed_slots, slot_at}
use Rattle.scanner_table.specs.Effects.{Next}
use Rattle.scanner_table.specs.Datagrams.{is_for, received}
use Rattle.scanner_table.specs.Points.{write}
use Rattle.scanner_table.specs.Step.{scanner_step, scanner_table}
use Rattle.scanner_table.specs.Runs.{left_by, table_after}
use Rattle.device_laws.specs.ScannerDeliveries.{reports_applied, is_slots}

-- the first of two if it is there, otherwise the second
abbrev pub or_else : {A : Type 0} → Option A → Option A → Option A
or_else None second = second
or_else (Some first) second = Some first

-- IMAGES

-- the bytes that a datagram leaves at the image of a slot: its data, if they were applied for the slot
abbrev pub datagram_left : ℕ → ScannerTable → Node → Verdict → Result DatagramFields DatagramFault → Option (List ℕ)
datagram_left number t peer verdict (Err fault) = None
datagram_left number t peer verdict (Ok d) =
    if is_slots number (find (is_for peer d.connection) (indexed_slots t)) && reports_applied verdict then Some d.payload else None

-- the bytes that the data of an event leave there
abbrev pub data_left : ℕ → ScannerTable → Event → Option (List ℕ)
data_left number t (Datagram peer bytes) = datagram_left number t peer (received t peer bytes).0.verdict (datagram_reading bytes)
data_left number t other = None

abbrev pub is_established : SlotState → Bool
is_established Idle = false
is_established (Opening o) = false
is_established (Established c) = true
is_established (TimedOut link) = false
is_established (Closing c) = false

-- zeros, if the slot becomes established
abbrev pub zeros_left : IndexedSlot → IndexedSlot → Option (List ℕ)
zeros_left was now =
    if is_established now.slot.state && not (is_established was.slot.state) then Some (replicate now.config.in_len 0) else None

abbrev pub opening_left : Option IndexedSlot → Option IndexedSlot → Option (List ℕ)
opening_left None now = None
opening_left (Some was) None = None
opening_left (Some was) (Some now) = zeros_left was now

-- the bytes that an event from one table to another leaves at the image of a slot, if it touches the image
abbrev pub image_left : ℕ → ScannerTable → Event → ScannerTable → Option (List ℕ)
image_left number old event new = or_else (data_left number old event) (opening_left (slot_at old number) (slot_at new number))

-- OUTPUTS

-- the bytes of a write that is not refused
abbrev pub written : Result Next StepFault → List ℕ → Option (List ℕ)
written (Err fault) bytes = None
written (Ok next) bytes = Some bytes

-- the bytes that an event leaves at the output of a slot: those that it writes there
abbrev pub output_left : ℕ → ScannerTable → Event → Option (List ℕ)
output_left number t (Write point bytes) = if point == number then written (write t point bytes) bytes else None
output_left number t other = None

-- ONE EVENT

-- a step leaves the bytes of the event at each image and output that it touches; the others stay
abbrev pub StepsLeaveBytes : Type 0
StepsLeaveBytes =
    (t : ScannerTable) (event : Event) (next : Next) (number : ℕ) (was now : IndexedSlot) →
    scanner_step t event ≡ Ok next → slot_at t number ≡ Some was → slot_at next.1 number ≡ Some now →
    (now.slot.image ≡ unwrap_or (image_left number t event next.1) was.slot.image)
    × (now.slot.output ≡ unwrap_or (output_left number t event) was.slot.output)

-- an event that is refused touches neither
abbrev pub RefusalsTouchNothing : Type 0
RefusalsTouchNothing =
    (t : ScannerTable) (event : Event) (fault : StepFault) (number : ℕ) → scanner_step t event ≡ Err fault →
    (image_left number t event t ≡ None) × (output_left number t event ≡ None)

-- EVENTS

-- the bytes that the last event which touches a slot's image leaves there, if any event touches it
abbrev pub last_image : ℕ → ScannerTable → List Event → Option (List ℕ)
last_image number t [] = None
last_image number t (event ∷ events) =
    let next = left_by t (scanner_step t event) in
    or_else (last_image number next events) (image_left number t event next)

-- the same of the output
abbrev pub last_output : ℕ → ScannerTable → List Event → Option (List ℕ)
last_output number t [] = None
last_output number t (event ∷ events) = or_else (last_output number (left_by t (scanner_step t event)) events) (output_left number t event)

-- after events each image and output holds the bytes that the last event which touched it left, or else those from before
abbrev pub BytesAreFromScratch : Type 0
BytesAreFromScratch =
    (t : ScannerTable) (events : List Event) (number : ℕ) (was now : IndexedSlot) →
    slot_at t number ≡ Some was → slot_at (table_after t events) number ≡ Some now →
    (now.slot.image ≡ unwrap_or (last_image number t events) was.slot.image)
    × (now.slot.output ≡ unwrap_or (last_output number t events) was.slot.output)

-- at a scanner that was fresh before the events, or else zeros
abbrev pub FreshBytesAreFromScratch : Type 0
FreshBytesAreFromScratch =
    (profile : ScannerProfile) (events : List Event) (number : ℕ) (now : IndexedSlot) →
    slot_at (table_after (scanner_table profile) events) number ≡ Some now →
    (now.slot.image ≡ unwrap_or (last_image number (scanner_table profile) events) (replicate now.config.in_len 0))
    × (now.slot.output ≡ unwrap_or (last_output number (scanner_table profile) events) (replicate now.config.out_len 0))
