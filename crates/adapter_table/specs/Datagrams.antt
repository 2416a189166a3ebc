-- Class 1 datagrams that an adapter receives: which connection they are for, whether they are accepted, and
-- how they change its output (Volume 1, chapter 3, class 1 transport, run/idle, connection timeouts;
-- Volume 2, chapter 2, sequenced address item).
use Rattle.std.specs.Prelude.{ℕ, ◌+◌, ◌==◌, ◌&&◌, Bool, false, if◌then◌else◌, List, [], length, map, find, Option, Some, None, Result, Ok, Err}
use Rattle.cip_types.specs.declared.names.Node.{Node}
use Rattle.cip_types.specs.declared.names.Ms.{Ms}
use Rattle.cip_datagram.specs.declared.datagram.DatagramFault.{DatagramFault}
use Rattle.cip_datagram.specs.Datagram.{DatagramFields}
use Rattle.cip_datagram.specs.Header.{header_at}
use Rattle.cip_datagram.specs.Reading.{datagram_reading}
use Rattle.cip_events.specs.declared.event.Delivery.{Delivery}
use Rattle.cip_events.specs.declared.event.Delivery.TheVariants.{Applied, Idle, Heartbeat, Duplicate, Old, UnknownId, WrongSize, Malformed}
use Rattle.cip_events.specs.declared.event.Verdict.TheVariants.{Delivered}
use Rattle.adapter_table.specs.declared.profile.OutputPoint.{OutputPoint}
use Rattle.adapter_table.specs.declared.profile.Profile.{Profile}
use Rattle.adapter_table.specs.declared.row.Connection.{Connection}
use Rattle.adapter_table.specs.declared.row.Mode.{Mode}
use Rattle.adapter_table.specs.declared.row.Mode.TheVariants as mode
use Rattle.adapter_table.specs.Connections.{Row}
use Rattle.adapter_table.specs.declared.table.PointValue.{PointValue}
use Rattle.adapter_table.specs.declared.table.AdapterTable.{AdapterTable}
use Rattle.adapter_table.specs.Profiles.{is_output_at}
use Rattle.adapter_table.specs.Points.{put_value, idle_values}
use Rattle.cip_productions.specs.Kinds.{is_owner}
use Rattle.adapter_table.specs.Rows.{is_established}
use Rattle.adapter_table.specs.StatedLimits.{accepts_at}
use Rattle.adapter_table.specs.Requests.{Next}
use Rattle.cip_events.specs.Answers.{plain_answer, is_accepted}
use Rattle.cip_productions.specs.Acceptance.{is_duplicate}

-- WHICH CONNECTION IT IS FOR, AND WHETHER IT IS ACCEPTED

-- the connection is an established one of the peer, with this O->T id
abbrev pub is_for : Node → ℕ → Row → Bool
is_for peer id row = is_established row && (row.peer.0 == peer.0 && row.o_t_id.0 == id)

abbrev pub output_len : Option OutputPoint → ℕ
output_len None = 0
output_len (Some output) = output.len

-- the bytes behind the sequence count: an owner's are a run/idle header and its output, a heartbeat has none
abbrev pub expected_len : {P : Type 0} → Profile → Connection P → ℕ
expected_len profile row = if is_owner row.kind then output_len (find (is_output_at row.consumed) profile.outputs) + 4 else 0

-- the run bit of a run/idle header, which data of an owner's size have
abbrev pub run_bit : Option (Bool × List ℕ) → Bool
run_bit None = false
run_bit (Some header) = header.0

-- an owner's data by their run/idle header
abbrev pub moded : Option (Bool × List ℕ) → Delivery
moded header = if run_bit header then Applied else Idle

-- the delivery of an owner's accepted datagram
abbrev pub owned_delivery : {P : Type 0} → Connection P → DatagramFields → Delivery
owned_delivery row d = if is_duplicate row.last d.count then Duplicate else moded (header_at d.payload)

-- the delivery of an accepted datagram
abbrev pub accepted_delivery : {P : Type 0} → Connection P → DatagramFields → Delivery
accepted_delivery row d = if is_owner row.kind then owned_delivery row d else Heartbeat

-- the delivery of a datagram that has the connection's size
abbrev pub sized_delivery : {P : Type 0} → Option ℕ → Ms → Connection P → DatagramFields → Delivery
sized_delivery within clock row d = if accepts_at within clock row d.sequence then accepted_delivery row d else Old

-- the delivery of a datagram at this time
abbrev pub row_delivery : {P : Type 0} → Profile → Ms → Connection P → DatagramFields → Delivery
row_delivery profile clock row d = if length d.payload == expected_len profile row then sized_delivery profile.limits.newer clock row d else WrongSize

-- WHAT IT CHANGES

abbrev pub later_deadline : {P : Type 0} → Ms → Connection P → Ms
later_deadline clock row = record { 0 = clock.0 + row.watchdog.0 }

-- the mode of the newest data, after a datagram of this delivery; all but Applied and Idle bring no new data
abbrev pub mode_after : Delivery → Option Mode → Option Mode
mode_after Applied before = Some mode.Run
mode_after Idle before = Some mode.Idle
mode_after Heartbeat before = before
mode_after Duplicate before = before
mode_after Old before = before
mode_after UnknownId before = before
mode_after WrongSize before = before
mode_after Malformed before = before

-- the datagram is the last that the connection accepted, its data say the mode, and its watchdog begins again
abbrev pub accepted_row : {P : Type 0} → Ms → DatagramFields → Connection P → Connection P
accepted_row clock d row = record row {
  last = Some (record { number = d.sequence; count = d.count });
  mode = mode_after (accepted_delivery row d) row.mode;
  deadline = later_deadline clock row;
}

-- the same, if the datagram is for the connection
abbrev pub accepted_if_for : Ms → Node → DatagramFields → Row → Row
accepted_if_for clock peer d row = if is_for peer d.connection row then accepted_row clock d row else row

-- the data behind a run/idle header
abbrev pub run_data : Option (Bool × List ℕ) → List ℕ
run_data None = []
run_data (Some x) = x.1

-- the output holds run-mode data; under idle mode its idle action is done
abbrev pub accepted_values : Profile → ℕ → DatagramFields → Delivery → List PointValue → List PointValue
accepted_values profile point d Applied values = put_value point (run_data (header_at d.payload)) values
accepted_values profile point d Idle values = idle_values profile point values
accepted_values profile point d Heartbeat values = values
accepted_values profile point d Duplicate values = values
accepted_values profile point d Old values = values
accepted_values profile point d UnknownId values = values
accepted_values profile point d WrongSize values = values
accepted_values profile point d Malformed values = values

-- the table after an accepted datagram
unfoldable pub accepted_table : AdapterTable → Node → DatagramFields → Row → Delivery → AdapterTable
accepted_table t peer d row delivery = record t {
  rows = map (accepted_if_for t.clock peer d) t.rows;
  values = accepted_values t.profile row.consumed d delivery t.values;
}

-- THE ANSWER

abbrev pub delivered : Delivery → AdapterTable → Next
delivered delivery t = (plain_answer (Delivered delivery), t)

abbrev pub judged_datagram : AdapterTable → Node → DatagramFields → Row → Delivery → Next
judged_datagram t peer d row delivery =
    if is_accepted delivery then delivered delivery (accepted_table t peer d row delivery) else delivered delivery t

abbrev pub found_datagram : AdapterTable → Node → DatagramFields → Option Row → Next
found_datagram t peer d None = delivered UnknownId t
found_datagram t peer d (Some row) = judged_datagram t peer d row (row_delivery t.profile t.clock row d)

abbrev pub datagram_of : AdapterTable → Node → Result DatagramFields DatagramFault → Next
datagram_of t peer (Err fault) = delivered Malformed t
datagram_of t peer (Ok d) = found_datagram t peer d (find (is_for peer d.connection) t.rows)

-- a datagram of a peer
unfoldable pub received : AdapterTable → Node → List ℕ → Next
received t peer bytes = datagram_of t peer (datagram_reading bytes)
