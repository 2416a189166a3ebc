-- The value of an output from scratch: the bytes that the last event to change it left there
-- (Volume 1, chapter 3, run/idle and connection timeouts; chapter 5, Assembly object).
use Rattle.std.specs.Prelude.{ℕ, ◌≡◌, ◌==◌, ◌&&◌, not, Bool, if◌then◌else◌, List, find, replicate, Option, Some, None, Result, Ok, Err}
use Rattle.std.specs.List.{list_any}
use Rattle.cip_types.specs.declared.names.Node.{Node}
use Rattle.cip_types.specs.declared.names.Ms.{Ms}
use Rattle.cip_datagram.specs.declared.datagram.DatagramFault.{DatagramFault}
use Rattle.cip_datagram.specs.Datagram.{DatagramFields}
use Rattle.cip_datagram.specs.Header.{header_at}
use Rattle.cip_datagram.specs.Reading.{datagram_reading}
use Rattle.cip_events.specs.declared.event.Delivery.{Delivery}
use Rattle.cip_events.specs.declared.event.Delivery.TheVariants.{Applied, Idle, Heartbeat, Duplicate, Old, UnknownId, WrongSize, Malformed}
use Rattle.cip_events.specs.declared.event.Event.{Event}
use Rattle.cip_events.specs.declared.event.Event.TheVariants.{Datagram}
use Rattle.adapter_table.specs.declared.profile.Action.{Action}
use Rattle.adapter_table.specs.declared.profile.Action.TheVariants.{Hold, Zero}
use Rattle.adapter_table.specs.declared.profile.OutputPoint.{OutputPoint}
use Rattle.adapter_table.specs.declared.profile.Profile.{Profile}
use Rattle.adapter_table.specs.Connections.{Row}
use Rattle.adapter_table.specs.declared.table.AdapterTable.{AdapterTable}
use Rattle.adapter_table.specs.Profiles.{is_output_at}
use Rattle.adapter_table.specs.Points.{bytes_at}
use Rattle.adapter_table.specs.Rows.{drives}
use Rattle.adapter_table.specs.Datagrams.{is_for, row_delivery, run_data}

-- the first of two, if it is there, else the second
abbrev pub or_else : {A : Type 0} → Option A → Option A → Option A
or_else None second = second
or_else (Some first) second = Some first

-- the bytes that an action leaves at an output of this length; none if the output is held
abbrev pub left_by : Action → ℕ → Option (List ℕ)
left_by Hold len = None
left_by Zero len = Some (replicate len 0)

abbrev pub left_idle : Option OutputPoint → Option (List ℕ)
left_idle None = None
left_idle (Some output) = left_by output.idle output.len

abbrev pub left_lost : Option OutputPoint → Option (List ℕ)
left_lost None = None
left_lost (Some output) = left_by output.fault output.len

-- ---- data

-- the bytes that a datagram for an output leaves there: its data in run mode, those of the idle action in idle mode
abbrev pub left_accepted : Option OutputPoint → DatagramFields → Delivery → Option (List ℕ)
left_accepted output d Applied = Some (run_data (header_at d.payload))
left_accepted output d Idle = left_idle output
left_accepted output d Heartbeat = None
left_accepted output d Duplicate = None
left_accepted output d Old = None
left_accepted output d UnknownId = None
left_accepted output d WrongSize = None
left_accepted output d Malformed = None

-- the same at one output, of a datagram for this connection
abbrev pub accepted_at : ℕ → Profile → Ms → DatagramFields → Row → Option (List ℕ)
accepted_at point profile clock d row =
    if row.consumed == point then left_accepted (find (is_output_at point) profile.outputs) d (row_delivery profile clock row d) else None

abbrev pub accepted_by : ℕ → Profile → Ms → DatagramFields → Option Row → Option (List ℕ)
accepted_by point profile clock d None = None
accepted_by point profile clock d (Some row) = accepted_at point profile clock d row

abbrev pub read_accepted : ℕ → AdapterTable → Node → Result DatagramFields DatagramFault → Option (List ℕ)
read_accepted point t peer (Err fault) = None
read_accepted point t peer (Ok d) = accepted_by point t.profile t.clock d (find (is_for peer d.connection) t.rows)

-- the bytes that the datagram of an event leaves at an output
abbrev pub data_left : ℕ → AdapterTable → Event → Option (List ℕ)
data_left point t (Datagram peer bytes) = read_accepted point t peer (datagram_reading bytes)
data_left point t other = None

-- ---- the loss of the owner

-- the output had an owner, and has none any more
abbrev pub is_lost : ℕ → List Row → List Row → Bool
is_lost point old new = list_any (drives point) old && not (list_any (drives point) new)

abbrev pub lost : ℕ → AdapterTable → AdapterTable → Option (List ℕ)
lost point old new = if is_lost point old.rows new.rows then left_lost (find (is_output_at point) old.profile.outputs) else None

-- ---- an event

-- the bytes that an event from one table to another leaves at an output, if it changes the output
abbrev pub left_at : ℕ → AdapterTable → Event → AdapterTable → Option (List ℕ)
left_at point old event new = or_else (data_left point old event) (lost point old new)

-- each output has the bytes that the event leaves there, else those that it had
abbrev pub Leaves : AdapterTable → Event → AdapterTable → Type 0
Leaves t event next =
    (point : ℕ) (output : OutputPoint) → find (is_output_at point) t.profile.outputs ≡ Some output →
    bytes_at next.values point ≡ or_else (left_at point t event next) (bytes_at t.values point)
