-- What the image of an established slot holds, and how old it is: the data of the newest datagram with new data that the slot's
-- connection accepted, and the newest accepted datagram came at most the connection's time-out ago; before the first one zeros
-- (Volume 1, chapter 3, class 1 transport and inactivity watchdog). A connection is named by its slot and the request number of its
-- opening.
use Rattle.std.specs.Prelude.{ℕ, ◌≡◌, ◌⊎◌, ◌≤◌, ◌&&◌, Bool, true, false, if◌then◌else◌, List, [], ◌∷◌, ◌++◌, find, replicate, Option, Some, None, Result, Ok, Err}
use Rattle.std.specs.List.{AllByRecursion}
use Rattle.cip_types.specs.declared.names.Node.{Node}
use Rattle.cip_datagram.specs.declared.datagram.DatagramFault.{DatagramFault}
use Rattle.cip_datagram.specs.Datagram.{DatagramFields}
use Rattle.cip_datagram.specs.Reading.{datagram_reading}
use Rattle.cip_events.specs.declared.event.Event.{Event}
use Rattle.cip_events.specs.declared.event.Event.TheVariants.{Datagram}
use Rattle.cip_events.specs.declared.event.Verdict.{Verdict}
use Rattle.scanner_table.specs.declared.slot.SlotConnection.{SlotConnection}
use Rattle.scanner_table.specs.declared.slot.SlotState.TheVariants.{Established}
use Rattle.scanner_table.specs.declared.table.ScannerTable.{ScannerTable}
use Rattle.scanner_table.specs.Slots.{IndexedSlot, indexed_slots, slot_at}
use Rattle.scanner_table.specs.Datagrams.{is_for, received}
use Rattle.scanner_table.specs.Runs.{table_after}
use Rattle.scanner_table.specs.Step.{scanner_table}
use Rattle.cip_tables.specs.declared.table.DeviceTable.TheVariants.{Scanner}
use Rattle.device_laws.specs.Newest.{Acceptance, came_from, is_connection, accepted_at, acceptances}
use Rattle.device_laws.specs.ScannerDeliveries.{reports_applied}
use Rattle.device_laws.specs.ScannerRuns.{OverFreshRuns}
use Rattle.freshness_laws.specs.Passing.{passed}
use Rattle.freshness_laws.specs.InTime.{first_timeout}

-- DATA FOR A CONNECTION

-- the datagram, if its data are applied for the connection
abbrev pub taken_found : ℕ → ℕ → DatagramFields → Verdict → Option IndexedSlot → Option DatagramFields
taken_found number opening d verdict None = None
taken_found number opening d verdict (Some indexed) = if is_connection number opening indexed && reports_applied verdict then Some d else None

abbrev pub taken_read : ℕ → ℕ → ScannerTable → Node → Verdict → Result DatagramFields DatagramFault → Option DatagramFields
taken_read number opening t peer verdict (Err fault) = None
taken_read number opening t peer verdict (Ok d) = taken_found number opening d verdict (find (is_for peer d.connection) (indexed_slots t))

-- the datagram of an event, if its data are applied for the connection of this slot and this opening
abbrev pub taken_at : ℕ → ℕ → ScannerTable → Event → Option DatagramFields
taken_at number opening t (Datagram peer bytes) = taken_read number opening t peer (received t peer bytes).0.verdict (datagram_reading bytes)
taken_at number opening t other = None

-- WHAT THE IMAGE HOLDS

-- an accepted datagram repeats this count, so it brings no new data
abbrev pub Repeats : ℕ → Acceptance → Type 0
Repeats count accepted = accepted.datagram.count ≡ count

-- One of the events is a datagram whose data were applied for the connection. All that the connection accepted after it repeats its
-- count.
pub record HasNewest (number opening : ℕ) (old : ScannerTable) (events : List Event) : Type 0 where
  pub before : List Event
  pub event : Event
  pub after : List Event
  pub d : DatagramFields
  pub split : events ≡ before ++ event ∷ after
  pub taken : taken_at number opening (table_after old before) event ≡ Some d
  pub repeated : AllByRecursion (Repeats d.count) (acceptances number opening (table_after old (before ++ event ∷ [])) after)

-- the image is the data of the newest such datagram
pub record HoldsNewest (number opening : ℕ) (old : ScannerTable) (events : List Event) (image : List ℕ) : Type 0 where
  pub newest : HasNewest number opening old events
  pub holds : image ≡ newest.d.payload

-- the connection has accepted no datagram, and the image is zeros
pub record HoldsNoData (number opening : ℕ) (old : ScannerTable) (events : List Event) (len : ℕ) (image : List ℕ) : Type 0 where
  pub silent : acceptances number opening old events ≡ []
  pub holds : image ≡ replicate len 0

-- HOW OLD IT IS

-- One of the events is the newest datagram that the connection accepted, and at most so much time has passed behind it.
pub record AcceptedWithin (number opening limit : ℕ) (old : ScannerTable) (events : List Event) : Type 0 where
  pub before : List Event
  pub event : Event
  pub after : List Event
  pub accepted : Acceptance
  pub split : events ≡ before ++ event ∷ after
  pub accepts : accepted_at number opening (table_after old before) event ≡ accepted ∷ []
  pub silent : acceptances number opening (table_after old (before ++ event ∷ [])) after ≡ []
  pub in_time : passed (Scanner (table_after old (before ++ event ∷ []))) after ≤ limit

abbrev pub slot_came_from : ℕ → Option IndexedSlot → Bool
slot_came_from opening None = false
slot_came_from opening (Some indexed) = came_from opening indexed.slot.state

-- the slot of this number has the connection of this opening
abbrev pub is_open : (number opening : ℕ) → ScannerTable → Bool
is_open number opening t = slot_came_from opening (slot_at t number)

-- One of the events established the connection, it accepted no datagram, and at most so much time has passed behind that.
pub record OpenedWithin (number opening limit : ℕ) (old : ScannerTable) (events : List Event) : Type 0 where
  pub before : List Event
  pub event : Event
  pub after : List Event
  pub split : events ≡ before ++ event ∷ after
  pub closed_before : is_open number opening (table_after old before) ≡ false
  pub opened : is_open number opening (table_after old (before ++ event ∷ [])) ≡ true
  pub silent : acceptances number opening old events ≡ []
  pub in_time : passed (Scanner (table_after old (before ++ event ∷ []))) after ≤ limit

-- THE LAWS

-- it holds of each established slot, with its connection, after each run from a fresh scanner whose profile has no fault
abbrev pub OfEstablishedSlots : (ScannerTable → List Event → IndexedSlot → SlotConnection → Type 0) → Type 0
OfEstablishedSlots Holds =
    OverFreshRuns (λ profile events new.
    (number : ℕ) (now : IndexedSlot) (c : SlotConnection) → slot_at new number ≡ Some now → now.slot.state ≡ Established c →
    Holds (scanner_table profile) events now c)

abbrev pub ImagesHoldNewestData : Type 0
ImagesHoldNewestData = OfEstablishedSlots (λ old events now c.
    HoldsNewest now.number c.opening old events now.slot.image ⊎ HoldsNoData now.number c.opening old events now.config.in_len now.slot.image)

abbrev pub SlotsAcceptInTime : Type 0
SlotsAcceptInTime = OfEstablishedSlots (λ old events now c.
    AcceptedWithin now.number c.opening c.watchdog.0 old events ⊎ OpenedWithin now.number c.opening (first_timeout c.watchdog.0) old events)
