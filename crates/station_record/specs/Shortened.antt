-- Datagrams that no connection can take, as they are recorded: without their data, or without any bytes.
use Rattle.std.specs.Prelude.{ℕ, ◌≡◌, Bool, true, false, List, [], Result, Ok, Err}
use Rattle.cip_types.specs.declared.names.Node.{Node}
use Rattle.cip_datagram.specs.declared.datagram.DatagramFault.{DatagramFault}
use Rattle.cip_datagram.specs.Datagram.{DatagramFields, datagram_text}
use Rattle.cip_datagram.specs.Reading.{datagram_reading}
use Rattle.cip_events.specs.declared.event.Event.{Event}
use Rattle.cip_events.specs.declared.event.Event.TheVariants.{Datagram}
use Rattle.cip_events.specs.declared.event.Delivery.{Delivery}
use Rattle.cip_events.specs.declared.event.Delivery.TheVariants.{Applied, Idle, Heartbeat, Duplicate, Old, UnknownId, WrongSize, Malformed}
use Rattle.cip_events.specs.declared.event.Verdict.{Verdict}
use Rattle.cip_events.specs.declared.event.Verdict.TheVariants as verdict
use Rattle.cip_events.specs.Outcomes.{Outcome}
use Rattle.cip_tables.specs.declared.table.DeviceTable.{DeviceTable}
use Rattle.cip_tables.specs.Step.{step}
use Rattle.cip_tables.specs.Run.{outcome_of}

-- no connection takes a datagram of this delivery, whatever data it has
abbrev pub is_lost : Delivery → Bool
is_lost Applied = false
is_lost Idle = false
is_lost Heartbeat = false
is_lost Duplicate = false
is_lost Old = false
is_lost UnknownId = true
is_lost WrongSize = false
is_lost Malformed = true

abbrev pub is_lost_by : Verdict → Bool
is_lost_by (verdict.Delivered delivery) = is_lost delivery
is_lost_by other = false

-- the outcome is that of such a datagram
abbrev pub is_for_none : Outcome → Bool
is_for_none (Ok answer) = is_lost_by answer.verdict
is_for_none (Err fault) = false

-- a datagram with the same ids, number and count, and no data
abbrev pub without_data : DatagramFields → DatagramFields
without_data d = record { connection = d.connection; sequence = d.sequence; count = d.count; payload = [] }

-- the bytes of a datagram without its data; none for bytes that are no datagram
abbrev pub bare_bytes : Result DatagramFields DatagramFault → List ℕ
bare_bytes (Ok d) = datagram_text (without_data d)
bare_bytes (Err fault) = []

abbrev pub recorded_datagram : Node → List ℕ → Bool → Event
recorded_datagram peer bytes true = Datagram peer (bare_bytes (datagram_reading bytes))
recorded_datagram peer bytes false = Datagram peer bytes

-- the second is the reading of the bytes that are recorded for those of the first
abbrev pub IsBare : Result DatagramFields DatagramFault → Result DatagramFields DatagramFault → Type 0
IsBare (Ok d) bare = bare ≡ Ok (without_data d)
IsBare (Err fault) (Ok d) = ⊥
IsBare (Err fault) (Err other) = Unit {0}

-- an event as it is recorded beside its outcome
abbrev pub recorded_event : Event → Outcome → Event
recorded_event (Datagram peer bytes) outcome = recorded_datagram peer bytes (is_for_none outcome)
recorded_event other outcome = other

-- Every table at which the event has this outcome takes the recorded event as it takes the event itself: with the same
-- answer, and the same table behind it.
abbrev pub Repeats : Event → Outcome → Type 0
Repeats event outcome = (table : DeviceTable) → outcome_of (step table event) ≡ outcome → step table (recorded_event event outcome) ≡ step table event
