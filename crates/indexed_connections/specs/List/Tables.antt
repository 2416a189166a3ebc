-- Connections that an adapter can have, and the connections after time has passed.
use Rattle.std.specs.Prelude.{◌≡◌, List, map}
use Rattle.cip_types.specs.declared.names.Ms.{Ms}
use Rattle.cip_productions.specs.Productions.{sent}
use Rattle.adapter_table.specs.Connections.{Row}
use Rattle.adapter_table.specs.declared.table.AdapterTable.{AdapterTable}
use Rattle.adapter_table.specs.declared.table.PointValue.{PointValue}
use Rattle.adapter_table.specs.Opening.{triad_of}
use Rattle.adapter_table.specs.Closing.{unsupported, staying}
use Rattle.adapter_table.specs.Productions.{due_productions, produced_row}
use Rattle.adapter_table.specs.Ticks.{expired, expired_rows}
use Rattle.adapter_table.specs.Whole.{IsWhole}
use Rattle.indexed_connections.specs.declared.list.table.TickPlan.{TickPlan}

-- the connections of some whole table of an adapter
pub record AreWhole (rows : List Row) : Type 0 where
  pub table : AdapterTable
  pub whole : IsWhole table
  pub same : table.rows ≡ rows

-- the connections whose deadline has been reached have timed out, the listeners that lost their support are dropped,
-- and the producers that are due have produced
abbrev pub advanced_rows : Ms → List Row → List Row
advanced_rows clock rows = map (produced_row clock) (staying (expired_rows clock rows))

-- what happens to the connections when time passes up to this clock
pub record IsTickPlan (clock : Ms) (rows : List Row) (values : List PointValue) (tick_plan : TickPlan) : Type 0 where
  pub expired : tick_plan.expired.items ≡ expired clock rows
  pub dropped : tick_plan.dropped.items ≡ map triad_of (unsupported (expired_rows clock rows))
  pub datagrams : tick_plan.datagrams.items ≡ map sent (due_productions clock (staying (expired_rows clock rows)) values)
