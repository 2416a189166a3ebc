-- What a device of either kind says of itself (Volume 1, chapter 3, connection object instance attributes; Volume 2,
-- chapter 2, encapsulation sessions).
use Rattle.std.specs.Prelude.{ℕ, if◌then◌else◌, length, filter, slice_get, Option, Some, None}
use Rattle.std.specs.Option.{option_map}
use Rattle.cip_types.specs.Ids.{ids_left}
use Rattle.cip_types.specs.declared.names.Triad.{Triad}
use Rattle.adapter_table.specs.declared.report.AnyConnection.{AnyConnection}
use Rattle.adapter_table.specs.declared.report.Class3Report.{Class3Report}
use Rattle.adapter_table.specs.declared.report.ConnectionReport.{ConnectionReport}
use Rattle.adapter_table.specs.declared.report.ConsumerCounts.{ConsumerCounts}
use Rattle.adapter_table.specs.declared.table.Stream.{Stream}
use Rattle.adapter_table.specs.States.{class3_at, connection_at, connection_of, consumers_of, is_registered, owner_of}
use Rattle.adapter_table.specs.Streams.{session_of}
use Rattle.scanner_table.specs.declared.report.SlotReport.{SlotReport}
use Rattle.scanner_table.specs.declared.table.Stage.{Stage}
use Rattle.scanner_table.specs.declared.table.Stage.TheVariants.{Waiting, Up, Unused}
use Rattle.scanner_table.specs.declared.table.TargetStream.{TargetStream}
use Rattle.scanner_table.specs.States.{report_at, is_open, is_up}
use Rattle.cip_tables.specs.declared.streams.StreamReport.{StreamReport}
use Rattle.cip_tables.specs.declared.table.DeviceTable.{DeviceTable}
use Rattle.cip_tables.specs.declared.table.DeviceTable.TheVariants.{Adapter, Scanner}
use Rattle.cip_tables.specs.declared.totals.DeviceTotals.{DeviceTotals}

-- the owner of an adapter's output; a scanner has no outputs that others own
abbrev pub owner_in : DeviceTable → ℕ → Option ConnectionReport
owner_in (Adapter t) point = owner_of t point
owner_in (Scanner t) point = None

-- the connection of an adapter at a place of the opening order
abbrev pub connection_in : DeviceTable → ℕ → Option ConnectionReport
connection_in (Adapter t) place = connection_at t place
connection_in (Scanner t) place = None

-- the class 3 connection of an adapter at a place of the opening order; a scanner has none
abbrev pub class3_in : DeviceTable → ℕ → Option Class3Report
class3_in (Adapter t) place = class3_at t place
class3_in (Scanner t) place = None

-- the connection of an adapter that has this triad, of either class
abbrev pub connection_with : DeviceTable → Triad → Option AnyConnection
connection_with (Adapter t) triad = connection_of t triad
connection_with (Scanner t) triad = None

-- how many connections consume an adapter's input, by their kinds
abbrev pub consumers_in : DeviceTable → ℕ → ConsumerCounts
consumers_in (Adapter t) point = consumers_of t point
consumers_in (Scanner t) point = record { exclusive_owners = 0; input_only = 0; listen_only = 0 }

-- the state of a scanner's slot
abbrev pub slot_in : DeviceTable → ℕ → Option SlotReport
slot_in (Adapter t) number = None
slot_in (Scanner t) number = report_at t number

-- an adapter's stream, with the handle of its session if one is registered
abbrev pub adapter_stream : Stream → StreamReport
adapter_stream stream = record {
  number = stream.number;
  peer = stream.peer;
  session = if stream.registered then Some (session_of stream) else None;
}

-- the handle of the session on a scanner's stream
abbrev pub handle_at : Stage → Option ℕ
handle_at Waiting = None
handle_at (Up handle) = Some handle
handle_at Unused = None

abbrev pub target_stream : TargetStream → StreamReport
target_stream stream = record { number = stream.number; peer = stream.peer; session = handle_at stream.stage }

-- the stream at a place of the order in which they were opened
abbrev pub stream_in : DeviceTable → ℕ → Option StreamReport
stream_in (Adapter t) place = option_map adapter_stream (slice_get t.streams place)
stream_in (Scanner t) place = option_map target_stream (slice_get t.streams place)

-- streams, sessions, connections of class 1 and of class 3, and connection ids that are left
abbrev pub totals_of : DeviceTable → DeviceTotals
totals_of (Adapter t) = record {
  streams = length t.streams;
  sessions = length (filter is_registered t.streams);
  connections = length t.rows;
  class3_connections = length t.messaging.class3_connections;
  ids_left = ids_left t.ids t.next_id;
}
totals_of (Scanner t) = record {
  streams = length t.streams;
  sessions = length (filter is_up t.streams);
  connections = length (filter is_open t.slots);
  class3_connections = 0;
  ids_left = ids_left t.ids t.next_id;
}
