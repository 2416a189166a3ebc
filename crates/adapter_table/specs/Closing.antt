-- Closing a connection: the connections that are dropped with it, and the table after it
-- (Volume 1, chapter 3, Forward_Close and application connection types).
use Rattle.std.specs.Prelude.{not, Bool, if◌then◌else◌, List, ◌∷◌, map, filter}
use Rattle.cip_types.specs.declared.names.Triad.{Triad}
use Rattle.cip_events.specs.declared.event.Notice.{Notice}
use Rattle.cip_events.specs.declared.event.Notice.TheVariants as notice
use Rattle.messaging.specs.declared.class3.Class3Connection.{Class3Connection}
use Rattle.messaging.specs.Changes.{without_class3}
use Rattle.adapter_table.specs.declared.profile.Profile.{Profile}
use Rattle.adapter_table.specs.Connections.{Row}
use Rattle.adapter_table.specs.declared.table.PointValue.{PointValue}
use Rattle.adapter_table.specs.declared.table.AdapterTable.{AdapterTable}
use Rattle.adapter_table.specs.Messages.{with_messages}
use Rattle.adapter_table.specs.Points.{lost_values}
use Rattle.adapter_table.specs.Rows.{has_triad, drives, is_unsupported, others}

-- the connections without that of the triad
abbrev pub without_triad : Triad → List Row → List Row
without_triad triad rows = others (has_triad triad) rows

-- the listen-only connections that lose their support, in opening order
abbrev pub unsupported : List Row → List Row
unsupported rows = filter (is_unsupported rows) rows

-- the connection stays
abbrev pub stays : List Row → Row → Bool
stays rows row = not (is_unsupported rows row)

abbrev pub staying : List Row → List Row
staying rows = filter (stays rows) rows

-- the fault action, if the connection drove an output
abbrev pub closed_values : Profile → Row → List PointValue → List PointValue
closed_values profile row values = if drives row.consumed row then lost_values profile row.consumed values else values

-- the connection is removed, its output loses its owner, and the listeners that lose their support are removed
unfoldable pub closed_table : AdapterTable → Row → AdapterTable
closed_table t row = record t {
  rows = staying (without_triad row.triad t.rows);
  values = closed_values t.profile row t.values;
}

abbrev pub dropped_notice : Row → Notice
dropped_notice row = notice.Dropped row.triad

abbrev pub closed_notices : List Row → Row → List Notice
closed_notices rows row = notice.Closed row.triad ∷ map dropped_notice (unsupported (without_triad row.triad rows))

-- the class 3 connection is removed, and what it asked waits no more
abbrev pub class3_closed_table : AdapterTable → Class3Connection → AdapterTable
class3_closed_table t d = with_messages t (without_class3 t.messaging d.triad)
