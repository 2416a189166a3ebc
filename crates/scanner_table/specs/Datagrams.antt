-- Class 1 datagrams that a scanner receives: which slot each is for, whether the slot accepts it, and what it does to the
-- slot's image (Volume 1, chapter 3, class 1 transport, connection timeouts; Volume 2, chapter 2, sequenced address item).
use Rattle.std.specs.Prelude.{ℕ, ◌==◌, ◌&&◌, Bool, if◌then◌else◌, List, length, find, Option, Some, None, Result, Ok, Err}
use Rattle.cip_types.specs.declared.names.Node.{Node}
use Rattle.cip_types.specs.declared.names.Ms.{Ms}
use Rattle.cip_datagram.specs.declared.datagram.DatagramFault.{DatagramFault}
use Rattle.cip_datagram.specs.Datagram.{DatagramFields}
use Rattle.cip_datagram.specs.Reading.{datagram_reading}
use Rattle.cip_events.specs.declared.event.Delivery.{Delivery}
use Rattle.cip_events.specs.declared.event.Delivery.TheVariants.{Applied, Duplicate, Old, UnknownId, WrongSize, Malformed}
use Rattle.cip_events.specs.declared.event.Verdict.TheVariants.{Delivered}
use Rattle.cip_events.specs.Answers.{plain_answer}
use Rattle.cip_productions.specs.Acceptance.{is_duplicate}
use Rattle.cip_productions.specs.Window.{pace_of, since_accepted, accepts_number}
use Rattle.scanner_table.specs.declared.slot.SlotConnection.{SlotConnection}
use Rattle.scanner_table.specs.declared.slot.SlotState.{SlotState}
use Rattle.scanner_table.specs.declared.slot.SlotState.TheVariants.{Idle, Opening, Established, TimedOut, Closing}
use Rattle.scanner_table.specs.declared.table.ScannerTable.{ScannerTable}
use Rattle.scanner_table.specs.Slots.{IndexedSlot, indexed_slots, is_with, with_slot}
use Rattle.scanner_table.specs.Effects.{Next}
use Rattle.scanner_table.specs.Opening.{later}
use Rattle.scanner_table.specs.Replies.{state_consumes}

-- the slot's connection is established with the peer, and has this T->O id
abbrev pub is_for : Node → ℕ → IndexedSlot → Bool
is_for peer id indexed = is_with peer indexed && state_consumes (record { 0 = id }) indexed.slot.state

-- the connection records the datagram as its last accepted one, and starts its watchdog anew
abbrev pub accepted_connection : Ms → DatagramFields → SlotConnection → SlotConnection
accepted_connection clock d c = record c {
  last = Some (record { number = d.sequence; count = d.count });
  deadline = later clock c.watchdog.0;
}

-- the table after an accepted datagram, with these bytes as the slot's image
abbrev pub accepted_table : ScannerTable → IndexedSlot → DatagramFields → SlotConnection → List ℕ → ScannerTable
accepted_table t indexed d c bytes =
    with_slot t indexed.number (record indexed.slot { state = Established (accepted_connection t.clock d c); image = bytes })

abbrev pub delivered : Delivery → ScannerTable → Next
delivered delivery t = (plain_answer (Delivered delivery), t)

-- a datagram with the count of the last accepted one is a duplicate: it restarts the watchdog, and the image stays
abbrev pub accepted : ScannerTable → IndexedSlot → DatagramFields → SlotConnection → Next
accepted t indexed d c =
    if is_duplicate c.last d.count then delivered Duplicate (accepted_table t indexed d c indexed.slot.image)
    else delivered Applied (accepted_table t indexed d c d.payload)

-- the least milliseconds between two datagrams of the slot's target
abbrev pub slot_pace : IndexedSlot → SlotConnection → ℕ
slot_pace indexed c = pace_of indexed.config.trigger c.t_o_api_ms indexed.config.inhibit

-- at this time the slot's connection accepts the number: it is newer than the last accepted one, and near it
abbrev pub accepts_at : ScannerTable → IndexedSlot → SlotConnection → ℕ → Bool
accepts_at t indexed c number = accepts_number t.profile.newer (since_accepted t.clock c.watchdog c.deadline) (slot_pace indexed c) c.last number

abbrev pub sized : ScannerTable → IndexedSlot → DatagramFields → SlotConnection → Next
sized t indexed d c = if accepts_at t indexed c d.sequence then accepted t indexed d c else delivered Old t

abbrev pub connected : ScannerTable → IndexedSlot → DatagramFields → SlotConnection → Next
connected t indexed d c = if length d.payload == indexed.config.in_len then sized t indexed d c else delivered WrongSize t

abbrev pub state_received : ScannerTable → IndexedSlot → DatagramFields → SlotState → Next
state_received t indexed d Idle = delivered UnknownId t
state_received t indexed d (Opening o) = delivered UnknownId t
state_received t indexed d (Established c) = connected t indexed d c
state_received t indexed d (TimedOut link) = delivered UnknownId t
state_received t indexed d (Closing c) = delivered UnknownId t

-- the delivery to the slot that the datagram is for, if any
abbrev pub received_at : ScannerTable → DatagramFields → Option IndexedSlot → Next
received_at t d None = delivered UnknownId t
received_at t d (Some indexed) = state_received t indexed d indexed.slot.state

abbrev pub received_as : ScannerTable → Node → Result DatagramFields DatagramFault → Next
received_as t peer (Err fault) = delivered Malformed t
received_as t peer (Ok d) = received_at t d (find (is_for peer d.connection) (indexed_slots t))

-- the delivery of a datagram of a peer
unfoldable pub received : ScannerTable → Node → List ℕ → Next
received t peer bytes = received_as t peer (datagram_reading bytes)
