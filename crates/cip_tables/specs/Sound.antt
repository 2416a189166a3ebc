-- Properties of every adapter's table that a run reaches, and of the counter of connection ids.
use Rattle.std.specs.Prelude.{◌≡◌, ◌≤◌, false, List, None, Ok}
use Rattle.cip_types.specs.Ids.{Extends}
use Rattle.cip_events.specs.declared.event.Event.{Event}
use Rattle.cip_events.specs.Arrivals.{gives_ids}
use Rattle.cip_events.specs.Outcomes.{Outcome}
use Rattle.adapter_table.specs.declared.table.AdapterTable.{AdapterTable}
use Rattle.adapter_table.specs.Sound.{IsSound}
use Rattle.scanner_table.specs.Whole.{IsWholeScanner}
use Rattle.cip_tables.specs.declared.table.Config.{Config}
use Rattle.cip_tables.specs.declared.table.DeviceTable.{DeviceTable}
use Rattle.cip_tables.specs.declared.table.DeviceTable.TheVariants.{Adapter, Scanner}
use Rattle.cip_tables.specs.Step.{DeviceNext, step, opening_table, config_fault}
use Rattle.cip_tables.specs.Run.{Runs}
use Rattle.cip_tables.specs.Whole.{IsWholeDevice, ids_of, next_id_of}

-- the table of an adapter is sound; that of a scanner is whole, which includes its laws
abbrev pub IsSoundDevice : DeviceTable → Type 0
IsSoundDevice (Adapter t) = IsSound t
IsSoundDevice (Scanner t) = IsWholeScanner t

-- the property holds of every adapter's table that a run from a whole table or from a fresh device without a fault reaches
pub record OverEveryRun (Holds : AdapterTable → Type 0) : Type 0 where
  pub whole :
      (old : DeviceTable) (events : List Event) (outcomes : List Outcome) (t : AdapterTable) →
      IsWholeDevice old → Runs old events outcomes (Adapter t) → Holds t
  pub fresh :
      (made : Config) (events : List Event) (outcomes : List Outcome) (t : AdapterTable) →
      config_fault made ≡ None → Runs (opening_table made) events outcomes (Adapter t) → Holds t

-- the counter of the next connection id does not fall in a step
abbrev pub StepsCountOn : Type 0
StepsCountOn =
    (old : DeviceTable) (event : Event) (next : DeviceNext) →
    step old event ≡ Ok next → next_id_of old ≤ next_id_of next.1

-- a step leaves the blocks of connection ids, or adds one: the ids of the numbers that they have stay
abbrev pub StepsGrow : Type 0
StepsGrow =
    (old : DeviceTable) (event : Event) (next : DeviceNext) →
    step old event ≡ Ok next → Extends (ids_of old) (ids_of next.1)

-- a step by an event that gives no block leaves the blocks as they are
abbrev pub StepsLeaveIds : Type 0
StepsLeaveIds =
    (old : DeviceTable) (event : Event) (next : DeviceNext) →
    step old event ≡ Ok next → gives_ids event ≡ false → ids_of next.1 ≡ ids_of old

-- nor does it fall in a run
abbrev pub RunsCountOn : Type 0
RunsCountOn =
    (old new : DeviceTable) (events : List Event) (outcomes : List Outcome) →
    Runs old events outcomes new → next_id_of old ≤ next_id_of new
