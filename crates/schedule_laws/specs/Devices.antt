-- The devices of a schedule keep their addresses, and a stream that is open in a device's table stands in the world, between the
-- device and the one whose address is the stream's peer (Volume 2, chapter 2, encapsulation sessions over TCP).
use Rattle.std.specs.Prelude.{ℕ, ◌≡◌, List, slice_get, Some}
use Rattle.std.specs.List.{Contains}
use Rattle.adapter_table.specs.declared.table.AdapterTable.{AdapterTable}
use Rattle.adapter_table.specs.declared.table.Stream.{Stream}
use Rattle.scanner_table.specs.declared.table.ScannerTable.{ScannerTable}
use Rattle.scanner_table.specs.declared.table.TargetStream.{TargetStream}
use Rattle.cip_tables.specs.declared.table.Config.{Config}
use Rattle.cip_tables.specs.declared.table.DeviceTable.{DeviceTable}
use Rattle.cip_tables.specs.Step.{node_of}
use Rattle.segment_world.specs.declared.act.Act.{Act}
use Rattle.segment_world.specs.Configs.{opening_world}
use Rattle.segment_world.specs.World.{node_at}
use Rattle.schedule_laws.specs.Chronicle.{Chronicle}
use Rattle.schedule_laws.specs.Lives.{DifferInAddress}
use Rattle.schedule_laws.specs.Order.{IsChronicle, IsAdapterAt, IsScannerAt}
use Rattle.schedule_laws.specs.Streams.{IsOpenTo}

-- The addresses are those of the beginning, and each device's is that of its profile. No two are equal, if each device has one
-- life: lives of one device have one address.
pub record DevicesKeepNodes (configs : List Config) (c : Chronicle) : Type 0 where
  pub nodes : c.story.world.nodes ≡ (opening_world configs).nodes
  pub own : (device : ℕ) (t : DeviceTable) → slice_get c.story.world.tables device ≡ Some t → node_at c.story.world device ≡ node_of t
  pub differ : DifferInAddress configs → (a b : ℕ) (t u : DeviceTable) → slice_get c.story.world.tables a ≡ Some t → slice_get c.story.world.tables b ≡ Some u → (node_of t).0 ≡ (node_of u).0 → a ≡ b

-- each open stream of a device's table
pub record OpenStreamsStand (c : Chronicle) : Type 0 where
  pub adapters : (device : ℕ) (t : AdapterTable) (s : Stream) → IsAdapterAt c device t → Contains t.streams s → IsOpenTo c.story.world device s.number s.peer
  pub scanners : (device : ℕ) (t : ScannerTable) (s : TargetStream) → IsScannerAt c device t → Contains t.streams s → IsOpenTo c.story.world device s.number s.peer

pub record DevicesStand (configs : List Config) (c : Chronicle) : Type 0 where
  pub nodes : DevicesKeepNodes configs c
  pub streams : OpenStreamsStand c

-- So it is in every schedule.
abbrev pub SchedulesKeepDevices : Type 0
SchedulesKeepDevices = (configs : List Config) (acts : List Act) (c : Chronicle) → IsChronicle configs acts c → DevicesStand configs c
