-- Which points a connection joins, over every schedule: those that the configuration of its slot names (Volume 1, chapter 3,
-- Forward_Open service, connection path and network connection parameters).
use Rattle.std.specs.Prelude.{ℕ, ◌≡◌, ◌<◌, ◌^◌, List, Some, IfSome}
use Rattle.std.specs.List.{AllByRecursion, Contains}
use Rattle.std.specs.Option.{option_map}
use Rattle.cip_epath.specs.ElectronicKey.{view_key}
use Rattle.cip_epath.specs.Segment.{KeyFits}
use Rattle.cip_productions.specs.Kinds.{is_owner}
use Rattle.adapter_table.specs.declared.profile.InputPoint.{InputPoint}
use Rattle.adapter_table.specs.declared.profile.Profile.{Profile}
use Rattle.adapter_table.specs.declared.table.AdapterTable.{AdapterTable}
use Rattle.adapter_table.specs.Checks.{consumed_point_of, input_of}
use Rattle.adapter_table.specs.Connections.{Row}
use Rattle.scanner_table.specs.declared.profile.SlotConfig.{SlotConfig}
use Rattle.scanner_table.specs.declared.table.ScannerTable.{ScannerTable}
use Rattle.scanner_table.specs.Slots.{IndexedSlot, slot_at}
use Rattle.cip_tables.specs.declared.table.Config.{Config}
use Rattle.cip_tables.specs.declared.table.Config.TheVariants as config
use Rattle.segment_world.specs.declared.act.Act.{Act}
use Rattle.device_laws.specs.Productions.{end_at}
use Rattle.device_laws.specs.ProductionRuns.{opening_number}
use Rattle.schedule_laws.specs.Chronicle.{Chronicle, Opened}
use Rattle.schedule_laws.specs.Order.{IsAdapterAt, IsChronicle, IsScannerAt}

-- A CONNECTION AND A SLOT

-- The adapter's connection joins the points that the slot's configuration names: its output or heartbeat point, and its input.
-- It is an exclusive owner where the slot is one, it is multicast where the slot is, and the points have the slot's lengths.
pub record JoinsPoints (slot : SlotConfig) (profile : Profile) (row : Row) : Type 0 where
  pub consumed : row.consumed ≡ slot.consumed
  pub produced : row.produced ≡ slot.produced
  pub multicast : row.multicast ≡ slot.multicast
  pub owner : is_owner row.kind ≡ is_owner slot.kind
  pub consumer : consumed_point_of profile slot.consumed ≡ Some (record { kind = row.kind; len = slot.out_len })
  pub input : InputPoint
  pub input_is : input_of profile slot.produced ≡ Some input
  pub input_len : input.len ≡ slot.in_len

-- A slot has this opening number, and the chronicle has an entry of that opening: the entry's connection, while it is in its
-- adapter's table, joins the slot's points.
abbrev pub ConnectionsJoinPoints : Chronicle → Type 0
ConnectionsJoinPoints c =
    (device : ℕ) (t : ScannerTable) (place : IndexedSlot) (opening : ℕ) (entry : Opened) (adapter : AdapterTable) (row : Row) →
    IsScannerAt c device t → slot_at t place.number ≡ Some place → opening_number place.slot.state ≡ Some opening →
    Contains c.opened entry → entry.slot ≡ end_at device opening →
    IsAdapterAt c entry.row.device adapter → Contains adapter.rows row → row.opening ≡ entry.row.number →
    JoinsPoints place.config adapter.profile row

-- THE PATHS OF SLOTS

-- each number of the slot's path is within its field
pub record HasPath (slot : SlotConfig) : Type 0 where
  pub key : IfSome (option_map view_key slot.key) KeyFits
  pub inhibit : slot.inhibit < 2 ^ 8
  pub config : IfSome slot.config (λ n. n < 2 ^ 32)
  pub consumed : slot.consumed < 2 ^ 32
  pub produced : slot.produced < 2 ^ 32

abbrev pub HasPaths : Config → Type 0
HasPaths (config.Adapter profile) = Unit {0}
HasPaths (config.Scanner profile) = AllByRecursion HasPath profile.slots

-- so it is of each scanner's slots, as it is in the program
abbrev pub HavePaths : List Config → Type 0
HavePaths configs = AllByRecursion HasPaths configs

-- THE LAW

-- At every moment of every schedule.
abbrev pub SchedulesJoinPoints : Type 0
SchedulesJoinPoints = (configs : List Config) (acts : List Act) (c : Chronicle) → IsChronicle configs acts c → HavePaths configs → ConnectionsJoinPoints c
