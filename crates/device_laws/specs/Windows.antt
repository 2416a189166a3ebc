-- Which numbers are within the window of a connection or of a slot, which grows with the time since the newest accepted
-- datagram: those are accepted, so that no burst of lost datagrams below the watchdog locks a producer out, and at a slot
-- those beyond it change nothing (Volume 1, chapter 3, class 1 transport; Volume 2, chapter 2, sequenced address item).
use Rattle.std.specs.Prelude.{ℕ, ◌≡◌, ◌≤◌, ◌<◌, ◌+◌, ◌*◌, ◌⊎◌, true, List, length, find, Some, Ok}
use Rattle.cip_types.specs.declared.names.Node.{Node}
use Rattle.cip_types.specs.Circle.{IsNewer, distance}
use Rattle.cip_datagram.specs.Datagram.{DatagramFields}
use Rattle.cip_datagram.specs.Reading.{datagram_reading}
use Rattle.cip_events.specs.declared.event.Delivery.{Delivery}
use Rattle.cip_events.specs.declared.event.Delivery.TheVariants.{Old, WrongSize}
use Rattle.cip_events.specs.declared.event.Event.TheVariants as event
use Rattle.cip_events.specs.declared.event.Verdict.TheVariants.{Delivered}
use Rattle.cip_events.specs.Answers.{plain_answer, is_accepted}
use Rattle.cip_productions.specs.declared.acceptance.Accepted.{Accepted}
use Rattle.cip_productions.specs.Window.{intervals_in, since_accepted}
use Rattle.adapter_table.specs.Connections.{Row}
use Rattle.adapter_table.specs.declared.table.AdapterTable.{AdapterTable}
use Rattle.adapter_table.specs.Datagrams as rows
use Rattle.adapter_table.specs.Requests.{Next}
use Rattle.adapter_table.specs.Step.{adapter_step}
use Rattle.scanner_table.specs.declared.slot.SlotConnection.{SlotConnection}
use Rattle.scanner_table.specs.declared.slot.SlotState.TheVariants.{Established}
use Rattle.scanner_table.specs.declared.table.ScannerTable.{ScannerTable}
use Rattle.scanner_table.specs.Datagrams as slots
use Rattle.scanner_table.specs.Effects.{Next as ScannerNext}
use Rattle.scanner_table.specs.Slots.{IndexedSlot, indexed_slots}
use Rattle.scanner_table.specs.Step.{scanner_step}
use Rattle.device_laws.specs.StatedLimits.{window_at}

-- AT A CONNECTION

-- the datagram is for a connection that accepted one before, and has its size and a newer number within the window
pub record IsWithinWindow (t : AdapterTable) (peer : Node) (bytes : List ℕ) : Type 0 where
  pub datagram : DatagramFields
  pub reads : datagram_reading bytes ≡ Ok datagram
  pub row : Row
  pub found : find (rows.is_for peer datagram.connection) t.rows ≡ Some row
  pub sized : length datagram.payload ≡ rows.expected_len t.profile row
  pub last : Accepted
  pub last_is : row.last ≡ Some last
  pub within : ℕ
  pub within_is : t.profile.limits.newer ≡ Some within
  pub newer : IsNewer datagram.sequence last.number
  pub near : distance datagram.sequence last.number < window_at t.clock row within

-- the connection has accepted the datagram, so its watchdog begins again
pub record IsTaken (t : AdapterTable) (peer : Node) (d : DatagramFields) (row : Row) (next : Next) : Type 0 where
  pub delivery : Delivery
  pub accepted : is_accepted delivery ≡ true
  pub said : next ≡ (plain_answer (Delivered delivery), rows.accepted_table t peer d row delivery)

-- so it is after each such datagram
abbrev pub NearNumbersAreAccepted : Type 0
NearNumbersAreAccepted =
    (t : AdapterTable) (peer : Node) (bytes : List ℕ) (next : Next) → adapter_step t (event.Datagram peer bytes) ≡ Ok next →
    (is : IsWithinWindow t peer bytes) → IsTaken t peer is.datagram is.row next

-- AT A SLOT

-- no number that is ahead of the newest one by so much, or more, is accepted at this time
abbrev pub slot_window_at : ScannerTable → IndexedSlot → SlotConnection → ℕ → ℕ
slot_window_at t indexed c within = within + 2 * intervals_in (since_accepted t.clock c.watchdog c.deadline) (slots.slot_pace indexed c)

-- the datagram is for the established connection of a slot that accepted one before
pub record IsForSlot (t : ScannerTable) (peer : Node) (bytes : List ℕ) : Type 0 where
  pub datagram : DatagramFields
  pub reads : datagram_reading bytes ≡ Ok datagram
  pub indexed : IndexedSlot
  pub found : find (slots.is_for peer datagram.connection) (indexed_slots t) ≡ Some indexed
  pub connection : SlotConnection
  pub established : indexed.slot.state ≡ Established connection
  pub last : Accepted
  pub last_is : connection.last ≡ Some last
  pub within : ℕ
  pub within_is : t.profile.newer ≡ Some within

-- the table stays; the verdict is that the datagram is old, or has another size
pub record IsNotAcceptedBySlot (t : ScannerTable) (next : ScannerNext) : Type 0 where
  pub table : next.1 ≡ t
  pub answer : (next.0 ≡ plain_answer (Delivered Old)) ⊎ (next.0 ≡ plain_answer (Delivered WrongSize))

-- so it is after each datagram whose number is ahead by as much as the window at this time, or more
abbrev pub FarNumbersChangeNoSlot : Type 0
FarNumbersChangeNoSlot =
    (t : ScannerTable) (peer : Node) (bytes : List ℕ) (next : ScannerNext) → scanner_step t (event.Datagram peer bytes) ≡ Ok next →
    (is : IsForSlot t peer bytes) → slot_window_at t is.indexed is.connection is.within ≤ distance is.datagram.sequence is.last.number → IsNotAcceptedBySlot t next

-- a datagram of the slot's size whose number is newer and within the window is accepted
abbrev pub NearNumbersAreAcceptedBySlots : Type 0
NearNumbersAreAcceptedBySlots =
    (t : ScannerTable) (peer : Node) (bytes : List ℕ) (next : ScannerNext) → scanner_step t (event.Datagram peer bytes) ≡ Ok next →
    (is : IsForSlot t peer bytes) → length is.datagram.payload ≡ is.indexed.config.in_len → IsNewer is.datagram.sequence is.last.number →
    distance is.datagram.sequence is.last.number < slot_window_at t is.indexed is.connection is.within → next ≡ slots.accepted t is.indexed is.datagram is.connection
