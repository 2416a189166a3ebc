-- Whole tables of devices, and the counter of their ids.
use Rattle.std.specs.Prelude.{ℕ, ◌≡◌, List, None}
use Rattle.cip_types.specs.declared.ids.IdBlock.{IdBlock}
use Rattle.cip_events.specs.declared.event.Event.{Event}
use Rattle.adapter_table.specs.declared.table.AdapterTable.{AdapterTable}
use Rattle.cip_tables.specs.declared.table.Config.{Config}
use Rattle.cip_tables.specs.declared.table.DeviceTable.{DeviceTable}
use Rattle.cip_tables.specs.declared.table.DeviceTable.TheVariants.{Adapter, Scanner}
use Rattle.cip_tables.specs.Step.{opening_table, config_fault}
use Rattle.cip_events.specs.Outcomes.{Outcome}
use Rattle.cip_tables.specs.Run.{Runs}
use Rattle.adapter_table.specs.Whole.{IsWhole}
use Rattle.scanner_table.specs.Whole.{IsWholeScanner}

abbrev pub IsWholeDevice : DeviceTable → Type 0
IsWholeDevice (Adapter t) = IsWhole t
IsWholeDevice (Scanner t) = IsWholeScanner t

-- the blocks of connection ids
abbrev pub ids_of : DeviceTable → List IdBlock
ids_of (Adapter t) = t.ids
ids_of (Scanner t) = t.ids

-- the number of the next connection id
abbrev pub next_id_of : DeviceTable → ℕ
next_id_of (Adapter t) = t.next_id
next_id_of (Scanner t) = t.next_id

-- the table with another such number
abbrev pub with_next_id : DeviceTable → ℕ → DeviceTable
with_next_id (Adapter t) counter = Adapter (record t { next_id = counter })
with_next_id (Scanner t) counter = Scanner (record t { next_id = counter })

-- a run from a whole table reaches a whole table
abbrev pub RunsKeepWhole : Type 0
RunsKeepWhole =
    (old new : DeviceTable) (events : List Event) (outcomes : List Outcome) →
    IsWholeDevice old → Runs old events outcomes new → IsWholeDevice new

-- the table of a fresh device is whole, if its profile has no fault
abbrev pub FreshDevicesAreWhole : Type 0
FreshDevicesAreWhole = (made : Config) → config_fault made ≡ None → IsWholeDevice (opening_table made)

-- each adapter's table that a run from such a device reaches is whole
abbrev pub TablesAreWhole : Type 0
TablesAreWhole =
    (made : Config) (events : List Event) (outcomes : List Outcome) (t : AdapterTable) →
    config_fault made ≡ None → Runs (opening_table made) events outcomes (Adapter t) → IsWhole t
