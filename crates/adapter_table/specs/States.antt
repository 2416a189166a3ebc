-- What an adapter says of its connections: who owns an output, in which mode, and who consumes an input
-- (Volume 1, chapter 3, connection object instance attributes, application connection types).
use Rattle.std.specs.Prelude.{ℕ, ◌==◌, ◌&&◌, Bool, List, length, filter, find, slice_get, Option, Some, None}
use Rattle.std.specs.Option.{option_map}
use Rattle.cip_types.specs.declared.names.Ms.{Ms}
use Rattle.cip_types.specs.declared.names.Triad.{Triad}
use Rattle.messaging.specs.Class3Connections.{has_class3_triad}
use Rattle.messaging.specs.declared.class3.Class3Connection.{Class3Connection}
use Rattle.cip_productions.specs.Ages.{age_of}
use Rattle.cip_productions.specs.Kinds.{same_kind}
use Rattle.cip_productions.specs.declared.kind.Kind.{Kind}
use Rattle.cip_productions.specs.declared.kind.Kind.TheVariants.{ExclusiveOwner, InputOnly, ListenOnly}
use Rattle.adapter_table.specs.declared.report.AnyConnection.{AnyConnection}
use Rattle.adapter_table.specs.declared.report.AnyConnection.TheVariants as any
use Rattle.adapter_table.specs.declared.report.Class3Report.{Class3Report}
use Rattle.adapter_table.specs.declared.report.ConnectionReport.{ConnectionReport}
use Rattle.adapter_table.specs.declared.report.ConsumerCounts.{ConsumerCounts}
use Rattle.adapter_table.specs.declared.table.AdapterTable.{AdapterTable}
use Rattle.adapter_table.specs.declared.table.Stream.{Stream}
use Rattle.adapter_table.specs.Connections.{Row}
use Rattle.adapter_table.specs.Rows.{is_established, drives, has_triad}

-- ONE CONNECTION

-- what is known of a connection at a time
abbrev pub report_of : Ms → Row → ConnectionReport
report_of clock row = record {
  triad = row.triad;
  peer = row.peer;
  o_t_id = row.o_t_id;
  t_o_id = row.t_o_id;
  kind = row.kind;
  consumed = row.consumed;
  produced = row.produced;
  established = is_established row;
  o_t_api_ms = row.o_t_api_ms;
  t_o_api_ms = row.t_o_api_ms;
  mode = row.mode;
  age = age_of clock row.last row.watchdog row.deadline;
}

-- the connection at a place of the opening order, timed-out ones included
abbrev pub connection_at : AdapterTable → ℕ → Option ConnectionReport
connection_at t place = option_map (report_of t.clock) (slice_get t.rows place)

-- what is known of a class 3 connection
abbrev pub class3_report : Class3Connection → Class3Report
class3_report d = record {
  triad = d.triad;
  peer = d.peer;
  stream = d.stream;
  o_t_id = d.o_t_id;
  t_o_id = d.t_o_id;
  o_t_api_ms = d.o_t_api_ms;
  t_o_api_ms = d.t_o_api_ms;
}

-- the class 3 connection at a place of the opening order
abbrev pub class3_at : AdapterTable → ℕ → Option Class3Report
class3_at t place = option_map class3_report (slice_get t.messaging.class3_connections place)

-- the connection of class 1, if there is one, or else that of class 3
abbrev pub either_class : Option ConnectionReport → Option Class3Report → Option AnyConnection
either_class (Some report) other = Some (any.Class1 report)
either_class None (Some report) = Some (any.Class3 report)
either_class None None = None

-- the connection of a triad, timed-out ones included
abbrev pub connection_of : AdapterTable → Triad → Option AnyConnection
connection_of t triad = either_class
    (option_map (report_of t.clock) (find (has_triad triad) t.rows))
    (option_map class3_report (find (has_class3_triad triad) t.messaging.class3_connections))

-- THE OWNER OF AN OUTPUT

-- its established exclusive owner
abbrev pub owner_of : AdapterTable → ℕ → Option ConnectionReport
owner_of t point = option_map (report_of t.clock) (find (drives point) t.rows)

-- THE CONSUMERS OF AN INPUT

-- an established connection of this kind consumes the input
abbrev pub consumes : Kind → ℕ → Row → Bool
consumes kind point row = is_established row && (same_kind row.kind kind && row.produced == point)

-- how many of the connections of this kind do
abbrev pub count_consuming : List Row → Kind → ℕ → ℕ
count_consuming rows kind point = length (filter (consumes kind point) rows)

-- by their kinds
abbrev pub consumers_of : AdapterTable → ℕ → ConsumerCounts
consumers_of t point = record {
  exclusive_owners = count_consuming t.rows ExclusiveOwner point;
  input_only = count_consuming t.rows InputOnly point;
  listen_only = count_consuming t.rows ListenOnly point;
}

-- SESSIONS

abbrev pub is_registered : Stream → Bool
is_registered stream = stream.registered
