-- The datagrams that a connection accepts, one after another: each number is newer than the one before it, and
-- applied data are new run-mode data (Volume 1, chapter 3, class 1 transport and run/idle; Volume 2, chapter 2, sequenced
-- address item).
use Rattle.std.specs.Prelude.{ℕ, ◌≡◌, ◌≢◌, ◌≤◌, ◌==◌, ◌&&◌, Bool, true, false, if◌then◌else◌, List, [], ◌∷◌, find, Option, Some, None, Result, Ok, Err}
use Rattle.cip_types.specs.declared.names.Node.{Node}
use Rattle.cip_types.specs.declared.names.Ms.{Ms}
use Rattle.cip_types.specs.Circle.{IsNewer}
use Rattle.cip_datagram.specs.declared.datagram.DatagramFault.{DatagramFault}
use Rattle.cip_datagram.specs.Datagram.{DatagramFields}
use Rattle.cip_datagram.specs.Header.{header_at}
use Rattle.cip_datagram.specs.Reading.{datagram_reading}
use Rattle.cip_events.specs.declared.event.Delivery.{Delivery}
use Rattle.cip_events.specs.declared.event.Delivery.TheVariants.{Applied, Idle, Heartbeat, Duplicate, Old, UnknownId, WrongSize, Malformed}
use Rattle.cip_events.specs.declared.event.Event.{Event}
use Rattle.cip_events.specs.declared.event.Event.TheVariants.{Datagram}
use Rattle.cip_events.specs.Answers.{is_accepted}
use Rattle.cip_productions.specs.declared.acceptance.Accepted.{Accepted}
use Rattle.adapter_table.specs.declared.profile.Profile.{Profile}
use Rattle.adapter_table.specs.Connections.{Row}
use Rattle.adapter_table.specs.declared.table.AdapterTable.{AdapterTable}
use Rattle.adapter_table.specs.Rows.{Each}
use Rattle.adapter_table.specs.Datagrams.{is_for, run_bit, row_delivery}

-- ---- what is accepted

-- a datagram that a connection accepted: its number and count, whether its header says run, whether its data were applied
pub record Acceptance : Type 0 where
  pub datagram : Accepted
  pub says_run : Bool
  pub applied : Bool

abbrev pub is_applied : Delivery → Bool
is_applied Applied = true
is_applied Idle = false
is_applied Heartbeat = false
is_applied Duplicate = false
is_applied Old = false
is_applied UnknownId = false
is_applied WrongSize = false
is_applied Malformed = false

-- a datagram that was accepted with this delivery
abbrev pub acceptance_of : DatagramFields → Delivery → Acceptance
acceptance_of d delivery = record {
  datagram = record { number = d.sequence; count = d.count };
  says_run = run_bit (header_at d.payload);
  applied = is_applied delivery;
}

-- the connection was opened with this opening number
abbrev pub was_opened_as : ℕ → Row → Bool
was_opened_as opening row = row.opening == opening

-- the datagram that the connection of an opening number accepts at a time, of one for a connection
abbrev pub accepted_by : ℕ → Profile → Ms → DatagramFields → Row → List Acceptance
accepted_by opening profile clock d row =
    if was_opened_as opening row && is_accepted (row_delivery profile clock row d) then acceptance_of d (row_delivery profile clock row d) ∷ [] else []

-- the same, if the datagram is for a connection
abbrev pub accepted_found : ℕ → Profile → Ms → DatagramFields → Option Row → List Acceptance
accepted_found opening profile clock d None = []
accepted_found opening profile clock d (Some row) = accepted_by opening profile clock d row

abbrev pub accepted_read : ℕ → AdapterTable → Node → Result DatagramFields DatagramFault → List Acceptance
accepted_read opening t peer (Err fault) = []
accepted_read opening t peer (Ok d) = accepted_found opening t.profile t.clock d (find (is_for peer d.connection) t.rows)

-- the datagram that the connection of an opening number accepts at an event
abbrev pub accepted_at : ℕ → AdapterTable → Event → List Acceptance
accepted_at opening t (Datagram peer bytes) = accepted_read opening t peer (datagram_reading bytes)
accepted_at opening t other = []

-- ---- one after another

-- it holds of each and the one accepted before it, and of the first one and `last`, the one accepted before all
abbrev pub EachAfter : (Option Accepted → Acceptance → Type 0) → Option Accepted → List Acceptance → Type 0
EachAfter R last [] = Unit {0}
EachAfter R last (next ∷ rest) = R last next × EachAfter R (Some next.datagram) rest

-- the last that was accepted, after all of these
abbrev pub last_accepted : Option Accepted → List Acceptance → Option Accepted
last_accepted last [] = last
last_accepted last (next ∷ rest) = last_accepted (Some next.datagram) rest

-- the number is newer than the one accepted before it
abbrev pub HasNewerNumber : Option Accepted → Acceptance → Type 0
HasNewerNumber None next = Unit {0}
HasNewerNumber (Some last) next = IsNewer next.datagram.number last.number

-- the count is another than that of the datagram accepted before it
abbrev pub HasOtherCount : Option Accepted → Acceptance → Type 0
HasOtherCount None next = Unit {0}
HasOtherCount (Some last) next = next.datagram.count ≢ last.count

-- if it is applied, its header says run, and its count is not that of the datagram accepted before it
abbrev pub IsAppliedNew : Option Accepted → Acceptance → Type 0
IsAppliedNew last next = next.applied ≡ true → (next.says_run ≡ true) × HasOtherCount last next

-- if it is applied, it is not the datagram accepted before it
abbrev pub IsNotAgain : Option Accepted → Acceptance → Type 0
IsNotAgain None next = Unit {0}
IsNotAgain (Some last) next = next.applied ≡ true → next.datagram ≢ last

-- ---- the last accepted datagram that a table remembers

-- the connection, if it was opened with this number, remembers this as the last that it accepted
abbrev pub RemembersLast : ℕ → Option Accepted → Row → Type 0
RemembersLast opening last row = row.opening ≡ opening → row.last ≡ last

-- the same of each connection of a table; a connection still to be opened has accepted nothing
pub record TableRemembers (opening : ℕ) (last : Option Accepted) (t : AdapterTable) : Type 0 where
  pub there : Each (RemembersLast opening last) t.rows
  pub unopened : t.next_id ≤ opening → last ≡ None
