-- The datagrams that a slot's connection accepts, one after another: each sequence number is newer than the one before it,
-- and applied data are new. A connection is named by the number of its slot and the request number of its opening (Volume 1,
-- chapter 3, class 1 transport; Volume 2, chapter 2, sequenced address item).
use Rattle.std.specs.Prelude.{ℕ, ◌≡◌, ◌≢◌, ◌≤◌, ◌<◌, ◌==◌, ◌&&◌, Bool, true, false, if◌then◌else◌, List, [], ◌∷◌, ◌++◌, find, Option, Some, None, Result, Ok, Err}
use Rattle.cip_types.specs.Circle.{IsNewer}
use Rattle.cip_types.specs.declared.names.Node.{Node}
use Rattle.cip_datagram.specs.declared.datagram.DatagramFault.{DatagramFault}
use Rattle.cip_datagram.specs.Datagram.{DatagramFields}
use Rattle.cip_datagram.specs.Reading.{datagram_reading}
use Rattle.cip_events.specs.declared.event.Event.{Event}
use Rattle.cip_events.specs.declared.event.Event.TheVariants.{Datagram}
use Rattle.cip_events.specs.declared.event.StepFault.{StepFault}
use Rattle.cip_events.specs.declared.event.Verdict.{Verdict}
use Rattle.cip_productions.specs.declared.acceptance.Accepted.{Accepted}
use Rattle.scanner_table.specs.declared.slot.SlotState.{SlotState}
use Rattle.scanner_table.specs.declared.slot.SlotState.TheVariants.{Idle, Opening, Established, TimedOut, Closing}
use Rattle.scanner_table.specs.declared.table.ScannerTable.{ScannerTable}
use Rattle.scanner_table.specs.Slots.{IndexedSlot, indexed_slots, slot_at, is_numbered}
use Rattle.scanner_table.specs.Effects.{Next}
use Rattle.scanner_table.specs.Datagrams.{is_for, received}
use Rattle.scanner_table.specs.Step.{scanner_step}
use Rattle.scanner_table.specs.WellFormed.{IsWellFormed}
use Rattle.scanner_table.specs.Runs.{left_by, OfEachSlot}
use Rattle.device_laws.specs.ScannerDeliveries.{reports_applied, reports_accepted}

-- ACCEPTED DATAGRAMS

-- a datagram that a connection accepted: its number and count, and whether its data were applied
pub record Acceptance : Type 0 where
  pub datagram : Accepted
  pub applied : Bool

abbrev pub acceptance_of : DatagramFields → Verdict → Acceptance
acceptance_of d verdict = record { datagram = record { number = d.sequence; count = d.count }; applied = reports_applied verdict }

-- the connection came from the opening of this request number
abbrev pub came_from : ℕ → SlotState → Bool
came_from opening Idle = false
came_from opening (Opening o) = false
came_from opening (Established c) = c.opening == opening
came_from opening (TimedOut link) = false
came_from opening (Closing c) = false

-- the connection is the slot's
abbrev pub is_connection : ℕ → ℕ → IndexedSlot → Bool
is_connection number opening indexed = is_numbered number indexed && came_from opening indexed.slot.state

-- the datagram, if it is for the connection and is accepted
abbrev pub accepted_found : ℕ → ℕ → DatagramFields → Verdict → Option IndexedSlot → List Acceptance
accepted_found number opening d verdict None = []
accepted_found number opening d verdict (Some indexed) =
    if is_connection number opening indexed && reports_accepted verdict then acceptance_of d verdict ∷ [] else []

abbrev pub accepted_read : ℕ → ℕ → ScannerTable → Node → Verdict → Result DatagramFields DatagramFault → List Acceptance
accepted_read number opening t peer verdict (Err fault) = []
accepted_read number opening t peer verdict (Ok d) = accepted_found number opening d verdict (find (is_for peer d.connection) (indexed_slots t))

-- the datagrams that the connection of this slot and this opening accepts at an event
abbrev pub accepted_at : ℕ → ℕ → ScannerTable → Event → List Acceptance
accepted_at number opening t (Datagram peer bytes) = accepted_read number opening t peer (received t peer bytes).0.verdict (datagram_reading bytes)
accepted_at number opening t other = []

-- the datagrams that it accepts over the events, in order
abbrev pub acceptances : ℕ → ℕ → ScannerTable → List Event → List Acceptance
acceptances number opening t [] = []
acceptances number opening t (event ∷ events) = accepted_at number opening t event ++ acceptances number opening (left_by t (scanner_step t event)) events

-- ONE AFTER ANOTHER

-- the relation holds of each datagram and the one accepted before it, and of the first and `last`, the one before all of them
abbrev pub EachAfter : (Option Accepted → Acceptance → Type 0) → Option Accepted → List Acceptance → Type 0
EachAfter R last [] = Unit {0}
EachAfter R last (next ∷ rest) = R last next × EachAfter R (Some next.datagram) rest

-- the datagram that was accepted last, after all of these
abbrev pub last_accepted : Option Accepted → List Acceptance → Option Accepted
last_accepted last [] = last
last_accepted last (next ∷ rest) = last_accepted (Some next.datagram) rest

-- the number is newer than the one accepted before it
abbrev pub HasNewerNumber : Option Accepted → Acceptance → Type 0
HasNewerNumber None next = Unit {0}
HasNewerNumber (Some last) next = IsNewer next.datagram.number last.number

-- the count is another than that of the datagram accepted before it
abbrev pub HasOtherCount : Option Accepted → Acceptance → Type 0
HasOtherCount None next = Unit {0}
HasOtherCount (Some last) next = next.datagram.count ≢ last.count

-- if it is applied, its count is another than that of the datagram accepted before it
abbrev pub IsAppliedNew : Option Accepted → Acceptance → Type 0
IsAppliedNew last next = next.applied ≡ true → HasOtherCount last next

-- if it is applied, it is not the datagram accepted before it
abbrev pub IsNotAgain : Option Accepted → Acceptance → Type 0
IsNotAgain None next = Unit {0}
IsNotAgain (Some last) next = next.applied ≡ true → next.datagram ≢ last

-- THE LAST ACCEPTED DATAGRAM IN THE TABLE

-- the connection, if it came from this opening, has this datagram as its last accepted one; a connection that is still to be
-- opened has accepted none
abbrev pub StateRemembers : ℕ → Option Accepted → SlotState → Type 0
StateRemembers opening last Idle = Unit {0}
StateRemembers opening last (Opening o) = o.request ≡ opening → last ≡ None
StateRemembers opening last (Established c) = c.opening ≡ opening → c.last ≡ last
StateRemembers opening last (TimedOut link) = Unit {0}
StateRemembers opening last (Closing c) = Unit {0}

-- the same of the slot of a number
pub record TableRemembers (number opening : ℕ) (last : Option Accepted) (t : ScannerTable) : Type 0 where
  pub there : (indexed : IndexedSlot) → slot_at t number ≡ Some indexed → StateRemembers opening last indexed.slot.state
  pub unopened : t.next_request ≤ opening → last ≡ None

abbrev pub state_last : ℕ → SlotState → Option Accepted
state_last opening Idle = None
state_last opening (Opening o) = None
state_last opening (Established c) = if c.opening == opening then c.last else None
state_last opening (TimedOut link) = None
state_last opening (Closing c) = None

abbrev pub last_of : ℕ → Option IndexedSlot → Option Accepted
last_of opening None = None
last_of opening (Some indexed) = state_last opening indexed.slot.state

-- the datagram that a connection accepted last, by the table
abbrev pub last_in : ℕ → ℕ → ScannerTable → Option Accepted
last_in number opening t = last_of opening (slot_at t number)

-- the opening of a slot has a number below the next one
abbrev pub StateIsNumbered : ℕ → SlotState → Type 0
StateIsNumbered next_request Idle = Unit {0}
StateIsNumbered next_request (Opening o) = o.request < next_request
StateIsNumbered next_request (Established c) = c.opening < next_request
StateIsNumbered next_request (TimedOut link) = Unit {0}
StateIsNumbered next_request (Closing c) = Unit {0}

abbrev pub SlotIsNumbered : ScannerTable → IndexedSlot → Type 0
SlotIsNumbered t indexed = StateIsNumbered t.next_request indexed.slot.state

abbrev pub OpeningsAreNumbered : ScannerTable → Type 0
OpeningsAreNumbered t = OfEachSlot (SlotIsNumbered t) t

-- the openings of a whole table are numbered
abbrev pub WholeTablesNumberOpenings : Type 0
WholeTablesNumberOpenings = (t : ScannerTable) → IsWellFormed t → OpeningsAreNumbered t

-- LAWS

-- the datagrams that a step accepts on a connection are so related to the last one of the table, and the next table has the
-- last of them
abbrev pub StepsAcceptAfter : (Option Accepted → Acceptance → Type 0) → Type 0
StepsAcceptAfter R =
    (number opening : ℕ) (last : Option Accepted) (t : ScannerTable) (event : Event) (next : Next) →
    scanner_step t event ≡ Ok next → OpeningsAreNumbered t → TableRemembers number opening last t →
    EachAfter R last (accepted_at number opening t event) × TableRemembers number opening (last_accepted last (accepted_at number opening t event)) next.1

-- an event that is refused is accepted on no connection
abbrev pub RefusalsAcceptNothing : Type 0
RefusalsAcceptNothing = (number opening : ℕ) (t : ScannerTable) (event : Event) (fault : StepFault) → scanner_step t event ≡ Err fault → accepted_at number opening t event ≡ []

-- each two datagrams that a connection accepts one after the other are so related, over every list of events
abbrev pub EventsAcceptAfter : (Option Accepted → Acceptance → Type 0) → Type 0
EventsAcceptAfter R =
    (number opening : ℕ) (t : ScannerTable) (events : List Event) → OpeningsAreNumbered t →
    EachAfter R (last_in number opening t) (acceptances number opening t events)
