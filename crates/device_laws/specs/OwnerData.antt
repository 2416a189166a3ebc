-- What an output with an owner holds, by the events of a run: the data of the newest datagram with new data that the owner's
-- connection accepted, or what the idle action left for it (Volume 1, chapter 3, run/idle). A connection is named by its opening
-- number.
use Rattle.std.specs.Prelude.{ℕ, ◌≡◌, if◌then◌else◌, List, [], ◌∷◌, ◌++◌, find, Option, Some, None, Result, Ok, Err}
use Rattle.std.specs.List.{AllByRecursion}
use Rattle.cip_types.specs.declared.names.Node.{Node}
use Rattle.cip_types.specs.declared.names.Ms.{Ms}
use Rattle.cip_datagram.specs.declared.datagram.DatagramFault.{DatagramFault}
use Rattle.cip_datagram.specs.Datagram.{DatagramFields}
use Rattle.cip_datagram.specs.Header.{header_at}
use Rattle.cip_datagram.specs.Reading.{datagram_reading}
use Rattle.cip_events.specs.declared.event.Delivery.{Delivery}
use Rattle.cip_events.specs.declared.event.Delivery.TheVariants.{Applied, Idle}
use Rattle.cip_events.specs.declared.event.Event.{Event}
use Rattle.cip_events.specs.declared.event.Event.TheVariants.{Datagram}
use Rattle.cip_events.specs.Outcomes.{Outcome}
use Rattle.adapter_table.specs.declared.profile.OutputPoint.{OutputPoint}
use Rattle.adapter_table.specs.declared.profile.Profile.{Profile}
use Rattle.adapter_table.specs.declared.report.ConnectionReport.{ConnectionReport}
use Rattle.adapter_table.specs.declared.row.Mode.{Mode}
use Rattle.adapter_table.specs.declared.row.Mode.TheVariants as mode
use Rattle.adapter_table.specs.declared.table.AdapterTable.{AdapterTable}
use Rattle.adapter_table.specs.Connections.{Row}
use Rattle.adapter_table.specs.Datagrams.{is_for, row_delivery, run_data}
use Rattle.adapter_table.specs.Newest.{Acceptance, was_opened_as}
use Rattle.adapter_table.specs.Points.{bytes_at}
use Rattle.adapter_table.specs.Profiles.{is_output_at}
use Rattle.adapter_table.specs.Rows.{drives}
use Rattle.adapter_table.specs.Scratch.{or_else, left_idle}
use Rattle.adapter_table.specs.States.{owner_of}
use Rattle.cip_tables.specs.declared.table.Config.{Config}
use Rattle.cip_tables.specs.declared.table.DeviceTable.{DeviceTable}
use Rattle.cip_tables.specs.declared.table.DeviceTable.TheVariants.{Adapter, Scanner}
use Rattle.cip_tables.specs.Newest.{acceptances}
use Rattle.cip_tables.specs.Run.{Runs, table_after, performed}
use Rattle.cip_tables.specs.Scratch.{last_touched}
use Rattle.cip_tables.specs.Step.{opening_table, config_fault, bytes_in}

-- DELIVERIES TO A CONNECTION

-- a datagram with its delivery at a time, if the connection has this opening number
abbrev pub delivered_by : ℕ → Profile → Ms → DatagramFields → Row → Option (DatagramFields × Delivery)
delivered_by opening profile clock d row = if was_opened_as opening row then Some (d, row_delivery profile clock row d) else None

-- the same, if the datagram is for a connection
abbrev pub delivered_found : ℕ → Profile → Ms → DatagramFields → Option Row → Option (DatagramFields × Delivery)
delivered_found opening profile clock d None = None
delivered_found opening profile clock d (Some row) = delivered_by opening profile clock d row

abbrev pub delivered_read : ℕ → AdapterTable → Node → Result DatagramFields DatagramFault → Option (DatagramFields × Delivery)
delivered_read opening t peer (Err fault) = None
delivered_read opening t peer (Ok d) = delivered_found opening t.profile t.clock d (find (is_for peer d.connection) t.rows)

-- the datagram of an event with its delivery, if it is for the connection of this opening number
abbrev pub delivered_at : ℕ → AdapterTable → Event → Option (DatagramFields × Delivery)
delivered_at opening t (Datagram peer bytes) = delivered_read opening t peer (datagram_reading bytes)
delivered_at opening t other = None

abbrev pub delivered_in : ℕ → DeviceTable → Event → Option (DatagramFields × Delivery)
delivered_in opening (Adapter t) event = delivered_at opening t event
delivered_in opening (Scanner t) event = None

-- THE NEWEST DATA OF A CONNECTION

-- an accepted datagram repeats this count, so it brings no new data
abbrev pub Repeats : ℕ → Acceptance → Type 0
Repeats count accepted = accepted.datagram.count ≡ count

-- One of the events is a datagram that the connection accepted with this delivery. All that the connection accepted after it
-- repeats its count, and no event after it touched the output.
pub record HasNewest (point opening : ℕ) (delivery : Delivery) (old : DeviceTable) (events : List Event) : Type 0 where
  pub before : List Event
  pub event : Event
  pub after : List Event
  pub d : DatagramFields
  pub split : events ≡ before ++ event ∷ after
  pub delivered : delivered_in opening (table_after old before) event ≡ Some (d, delivery)
  pub repeated : AllByRecursion (Repeats d.count) (acceptances opening (table_after old (before ++ event ∷ [])) after)
  pub untouched : last_touched point (table_after old (before ++ event ∷ [])) after ≡ None

-- WHAT ITS OUTPUT HOLDS

-- in run mode: the newest data
pub record HoldsRunData (point : ℕ) (old : DeviceTable) (events : List Event) (t : AdapterTable) : Type 0 where
  pub owner : Row
  pub owns : find (drives point) t.rows ≡ Some owner
  pub newest : HasNewest point owner.opening Applied old events
  pub holds : bytes_at t.values point ≡ Some (run_data (header_at newest.d.payload))

-- in idle mode: what the idle action left for the newest data, zeros or what the output held before them
pub record HoldsIdleData (output : OutputPoint) (old : DeviceTable) (events : List Event) (t : AdapterTable) : Type 0 where
  pub owner : Row
  pub owns : find (drives output.instance) t.rows ≡ Some owner
  pub newest : HasNewest output.instance owner.opening Idle old events
  pub holds : bytes_at t.values output.instance ≡ or_else (left_idle (Some output)) (bytes_in (table_after old newest.before) output.instance)

-- THE LAWS

-- it holds after each run from a fresh adapter without a fault, of each output whose owner has this mode
abbrev pub OfOwnersIn : Mode → (OutputPoint → DeviceTable → List Event → AdapterTable → Type 0) → Type 0
OfOwnersIn said Holds =
    (made : Config) (events : List Event) (outcomes : List Outcome) (t : AdapterTable) (output : OutputPoint) (owner : ConnectionReport) →
    config_fault made ≡ None → Runs (opening_table made) events outcomes (Adapter t) →
    find (is_output_at output.instance) t.profile.outputs ≡ Some output →
    owner_of t output.instance ≡ Some owner → owner.mode ≡ Some said →
    Holds output (opening_table made) (performed events outcomes) t

abbrev pub RunOwnersHoldData : Type 0
RunOwnersHoldData = OfOwnersIn mode.Run (λ output old events t. HoldsRunData output.instance old events t)

abbrev pub IdleOwnersHoldData : Type 0
IdleOwnersHoldData = OfOwnersIn mode.Idle HoldsIdleData
