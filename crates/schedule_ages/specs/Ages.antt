-- How old outputs and images are in every schedule of many devices: the laws of one device hold of each device, by its own ticks
-- (Volume 1, chapter 3, class 1 transport, inactivity watchdog and connection timeouts).
use Rattle.std.specs.Prelude.{ℕ, ◌≡◌, ◌⊎◌, Bool, true, false, List, find, slice_get, Some, None, Ok}
use Rattle.std.specs.List.{list_any}
use Rattle.cip_events.specs.declared.event.Event.{Event}
use Rattle.adapter_table.specs.declared.profile.OutputPoint.{OutputPoint}
use Rattle.adapter_table.specs.declared.table.AdapterTable.{AdapterTable}
use Rattle.adapter_table.specs.Profiles.{is_output_at}
use Rattle.adapter_table.specs.Rows.{Each}
use Rattle.scanner_table.specs.declared.slot.SlotConnection.{SlotConnection}
use Rattle.scanner_table.specs.declared.slot.SlotState.TheVariants.{Established}
use Rattle.scanner_table.specs.declared.table.ScannerTable.{ScannerTable}
use Rattle.scanner_table.specs.Slots.{IndexedSlot, slot_at}
use Rattle.cip_tables.specs.declared.table.Config.{Config}
use Rattle.cip_tables.specs.declared.table.DeviceTable.{DeviceTable}
use Rattle.cip_tables.specs.declared.table.DeviceTable.TheVariants.{Adapter, Scanner}
use Rattle.cip_tables.specs.Step.{opening_table, config_fault}
use Rattle.segment_world.specs.declared.act.Act.{Act}
use Rattle.segment_world.specs.Configs.{opening_world}
use Rattle.segment_world.specs.Story.{Story, runs, begins, events_of}
use Rattle.freshness_laws.specs.InTime.{AcceptsInTime, first_timeout}
use Rattle.freshness_laws.specs.Outputs.{HoldsFreshData, HoldsActed, HoldsZeros}
use Rattle.freshness_laws.specs.Outputs as outputs
use Rattle.freshness_laws.specs.Images.{HoldsNewest, HoldsNoData, AcceptedWithin, OpenedWithin}

-- THE DEVICES OF A SCHEDULE

-- It holds of each device of each schedule of a world that begins from configurations: of its fresh table, of its events, and of its
-- table now. Only its own profile has to be without a fault.
abbrev pub OfDevices : (DeviceTable → List Event → DeviceTable → Type 0) → Type 0
OfDevices Holds =
    (configs : List Config) (acts : List Act) (story : Story) (device : ℕ) (made : Config) (now : DeviceTable) →
    runs (begins (opening_world configs)) acts ≡ Ok story → slice_get configs device ≡ Some made → config_fault made ≡ None →
    slice_get story.world.tables device ≡ Some now → Holds (opening_table made) (events_of device story.reported) now

-- THOSE OF AN ADAPTER

abbrev pub AcceptInTime : DeviceTable → List Event → DeviceTable → Type 0
AcceptInTime old events (Adapter t) = Each (AcceptsInTime old events) t.rows
AcceptInTime old events (Scanner t) = Unit {0}

-- each output, by whether its owner is in run mode
abbrev pub OfOutputs : Bool → (OutputPoint → DeviceTable → List Event → AdapterTable → Type 0) → DeviceTable → List Event → DeviceTable → Type 0
OfOutputs running Holds old events (Adapter t) =
    (output : OutputPoint) → find (is_output_at output.instance) t.profile.outputs ≡ Some output → list_any (outputs.runs output.instance) t.rows ≡ running →
    Holds output old events t
OfOutputs running Holds old events (Scanner t) = Unit {0}

-- THOSE OF A SCANNER

-- each established slot, with its connection
abbrev pub OfSlots : (ScannerTable → List Event → IndexedSlot → SlotConnection → Type 0) → DeviceTable → List Event → DeviceTable → Type 0
OfSlots Holds (Scanner old) events (Scanner t) =
    (number : ℕ) (now : IndexedSlot) (c : SlotConnection) → slot_at t number ≡ Some now → now.slot.state ≡ Established c → Holds old events now c
OfSlots Holds old events now = Unit {0}

-- THE LAWS

abbrev pub ConnectionsAcceptInTime : Type 0
ConnectionsAcceptInTime = OfDevices AcceptInTime

abbrev pub RunOutputsAreFresh : Type 0
RunOutputsAreFresh = OfDevices (OfOutputs true (λ output old events t. HoldsFreshData output.instance old events t))

abbrev pub OtherOutputsAreActed : Type 0
OtherOutputsAreActed = OfDevices (OfOutputs false (λ output old events t. HoldsActed output old events t ⊎ HoldsZeros output old events t))

abbrev pub ImagesHoldNewestData : Type 0
ImagesHoldNewestData = OfDevices (OfSlots (λ old events now c.
    HoldsNewest now.number c.opening old events now.slot.image ⊎ HoldsNoData now.number c.opening old events now.config.in_len now.slot.image))

abbrev pub SlotsAcceptInTime : Type 0
SlotsAcceptInTime = OfDevices (OfSlots (λ old events now c.
    AcceptedWithin now.number c.opening c.watchdog.0 old events ⊎ OpenedWithin now.number c.opening (first_timeout c.watchdog.0) old events))
