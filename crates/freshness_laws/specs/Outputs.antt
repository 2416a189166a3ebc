-- How old the bytes of an output are. Under an owner in run mode they are data of that owner, accepted or repeated at most its
-- time-out ago; otherwise they are zeros, or what the idle or the fault action left (Volume 1, chapter 3, run/idle, inactivity
-- watchdog and connection timeouts).
use Rattle.std.specs.Prelude.{ℕ, ◌≡◌, ◌⊎◌, ◌&&◌, Bool, true, false, List, ◌∷◌, [], ◌++◌, find, replicate, Option, Some, None}
use Rattle.std.specs.List.{list_any}
use Rattle.cip_datagram.specs.Datagram.{DatagramFields}
use Rattle.cip_datagram.specs.Header.{header_at}
use Rattle.cip_events.specs.declared.event.Delivery.TheVariants.{Applied, Idle}
use Rattle.cip_events.specs.declared.event.Event.{Event}
use Rattle.cip_events.specs.Outcomes.{Outcome}
use Rattle.adapter_table.specs.declared.profile.Action.{Action}
use Rattle.adapter_table.specs.declared.profile.OutputPoint.{OutputPoint}
use Rattle.adapter_table.specs.declared.row.Mode.{Mode}
use Rattle.adapter_table.specs.declared.row.Mode.TheVariants as mode
use Rattle.adapter_table.specs.declared.table.AdapterTable.{AdapterTable}
use Rattle.adapter_table.specs.Connections.{Row}
use Rattle.adapter_table.specs.Datagrams.{run_data}
use Rattle.adapter_table.specs.Points.{bytes_at}
use Rattle.adapter_table.specs.Profiles.{is_output_at}
use Rattle.adapter_table.specs.Rows.{drives}
use Rattle.adapter_table.specs.Scratch.{or_else, left_by, is_lost}
use Rattle.cip_tables.specs.declared.table.Config.{Config}
use Rattle.cip_tables.specs.declared.table.DeviceTable.{DeviceTable}
use Rattle.cip_tables.specs.declared.table.DeviceTable.TheVariants.{Adapter, Scanner}
use Rattle.cip_tables.specs.Run.{Runs, table_after, performed}
use Rattle.cip_tables.specs.Scratch.{last_touched}
use Rattle.cip_tables.specs.Step.{opening_table, config_fault, bytes_in}
use Rattle.device_laws.specs.OwnerData.{delivered_in, HasNewest}
use Rattle.freshness_laws.specs.InTime.{AcceptedWithin}

-- UNDER AN OWNER IN RUN MODE

abbrev pub is_run : Option Mode → Bool
is_run None = false
is_run (Some mode.Run) = true
is_run (Some mode.Idle) = false

-- the connection is the established exclusive owner of the output, and its newest data are in run mode
abbrev pub runs : ℕ → Row → Bool
runs point row = drives point row && is_run row.mode

-- The output holds the newest data of its owner, and the newest datagram that the owner's connection accepted brought or repeated
-- them at most the connection's time-out ago.
pub record HoldsFreshData (point : ℕ) (old : DeviceTable) (events : List Event) (t : AdapterTable) : Type 0 where
  pub owner : Row
  pub owns : find (drives point) t.rows ≡ Some owner
  pub newest : HasNewest point owner.opening Applied old events
  pub holds : bytes_at t.values point ≡ Some (run_data (header_at newest.d.payload))
  pub recent : AcceptedWithin owner.opening owner.watchdog.0 old events
  pub repeats : recent.accepted.datagram.count ≡ newest.d.count

-- OTHERWISE

-- the connections of a device that is an adapter
abbrev pub rows_in : DeviceTable → List Row
rows_in (Adapter t) = t.rows
rows_in (Scanner t) = []

-- the event is a datagram by which the owner of the output turned it idle
pub record TurnsIdle (point : ℕ) (old : DeviceTable) (event : Event) : Type 0 where
  pub owner : Row
  pub owns : find (drives point) (rows_in old) ≡ Some owner
  pub d : DatagramFields
  pub delivered : delivered_in owner.opening old event ≡ Some (d, Idle)

-- an event from one table to another has this action done at the output: its idle action, or its fault action since it lost its owner
abbrev pub Acts : OutputPoint → DeviceTable → Event → DeviceTable → Action → Type 0
Acts output old event next action =
    ((action ≡ output.idle) × TurnsIdle output.instance old event)
    ⊎ ((action ≡ output.fault) × (is_lost output.instance (rows_in old) (rows_in next) ≡ true))

-- one of the events had an action done at the output, no event after it touched the output, and it holds what the action left
pub record HoldsActed (output : OutputPoint) (old : DeviceTable) (events : List Event) (t : AdapterTable) : Type 0 where
  pub before : List Event
  pub event : Event
  pub after : List Event
  pub action : Action
  pub split : events ≡ before ++ event ∷ after
  pub acts : Acts output (table_after old before) event (table_after old (before ++ event ∷ [])) action
  pub untouched : last_touched output.instance (table_after old (before ++ event ∷ [])) after ≡ None
  pub holds : bytes_at t.values output.instance ≡ or_else (left_by action output.len) (bytes_in (table_after old before) output.instance)

-- no event touched the output, and it holds zeros
pub record HoldsZeros (output : OutputPoint) (old : DeviceTable) (events : List Event) (t : AdapterTable) : Type 0 where
  pub untouched : last_touched output.instance old events ≡ None
  pub holds : bytes_at t.values output.instance ≡ Some (replicate output.len 0)

-- THE LAWS

-- it holds of an output, by whether its owner is in run mode, after each run from a fresh adapter without a fault
abbrev pub OfOutputs : Bool → (OutputPoint → DeviceTable → List Event → AdapterTable → Type 0) → Type 0
OfOutputs running Holds =
    (made : Config) (events : List Event) (outcomes : List Outcome) (t : AdapterTable) (output : OutputPoint) →
    config_fault made ≡ None → Runs (opening_table made) events outcomes (Adapter t) →
    find (is_output_at output.instance) t.profile.outputs ≡ Some output → list_any (runs output.instance) t.rows ≡ running →
    Holds output (opening_table made) (performed events outcomes) t

abbrev pub RunOutputsAreFresh : Type 0
RunOutputsAreFresh = OfOutputs true (λ output old events t. HoldsFreshData output.instance old events t)

abbrev pub OtherOutputsAreActed : Type 0
OtherOutputsAreActed = OfOutputs false (λ output old events t. HoldsActed output old events t ⊎ HoldsZeros output old events t)
