-- Owners of an output, one after another, in every schedule of many devices: between data of two connections that were
-- applied to one output of an adapter, the first connection was closed or timed out at that adapter (Volume 1, chapter 3,
-- application connection types, Forward_Close and connection timeouts). A connection is named by its opening number, which
-- an adapter gives once.
use Rattle.std.specs.Prelude.{ℕ, ◌≡◌, ◌≢◌, List, [], ◌∷◌, ◌++◌, slice_get, Some, Ok}
use Rattle.std.specs.List.{Contains}
use Rattle.adapter_table.specs.declared.table.AdapterTable.{AdapterTable}
use Rattle.cip_tables.specs.declared.table.Config.{Config}
use Rattle.cip_tables.specs.declared.table.DeviceTable.{DeviceTable}
use Rattle.cip_tables.specs.declared.table.DeviceTable.TheVariants.{Adapter}
use Rattle.cip_tables.specs.Whole.{IsWholeDevice}
use Rattle.device_laws.specs.Turns.{brought, ended, brought_at, ended_at}
use Rattle.segment_world.specs.declared.act.Act.{Act}
use Rattle.segment_world.specs.World.{World, ReportedEvent}
use Rattle.segment_world.specs.Story.{Story, runs, begins}
use Rattle.segment_world.specs.Configs.{opening_world}
use Rattle.schedule_laws.specs.Lives.{AreLives}
use Rattle.schedule_laws.specs.Stories.{led_to}

-- the reported event is one of the device, after the events before it: a datagram whose data were applied to the output
-- through the connection of this opening number
pub record Brings (t : DeviceTable) (device point opening : ℕ) (before : List ReportedEvent) (reported : ReportedEvent) : Type 0 where
  pub own : reported.device ≡ device
  pub adapter : AdapterTable
  pub there : led_to t device before ≡ Adapter adapter
  pub brings : brought_at point adapter reported.event ≡ brought opening ∷ []

-- the reported event is one of the device, after the events before it; a notice of its answer reports that the connection of
-- this opening number, the owner of the output, was closed or timed out
pub record Ends (t : DeviceTable) (device point opening : ℕ) (before : List ReportedEvent) (reported : ReportedEvent) : Type 0 where
  pub own : reported.device ≡ device
  pub adapter : AdapterTable
  pub there : led_to t device before ≡ Adapter adapter
  pub ends : Contains (ended_at point adapter.rows reported.answer.notices) (ended opening)

-- such an end is among the events reported in the middle
pub record EndsWithin (t : DeviceTable) (device point opening : ℕ) (before middle : List ReportedEvent) : Type 0 where
  pub front : List ReportedEvent
  pub last : ReportedEvent
  pub back : List ReportedEvent
  pub parts : middle ≡ front ++ last ∷ back
  pub ends : Ends t device point opening (before ++ front) last

-- between data of two connections the first one ends, in the events reported from this table of the device on
abbrev pub EndsBetween : DeviceTable → ℕ → List ReportedEvent → Type 0
EndsBetween t device reported =
    (point a b : ℕ) (before middle after : List ReportedEvent) (first second : ReportedEvent) →
    reported ≡ before ++ first ∷ (middle ++ second ∷ after) →
    Brings t device point a before first → Brings t device point b (before ++ first ∷ middle) second → a ≢ b →
    EndsWithin t device point a (before ++ first ∷ []) middle

-- it holds in the story of every schedule, of each device whose table is whole when the schedule begins
abbrev pub OwnersFollow : Type 0
OwnersFollow =
    (start : World) (acts : List Act) (story : Story) (device : ℕ) (t : DeviceTable) →
    runs (begins start) acts ≡ Ok story → slice_get start.tables device ≡ Some t → IsWholeDevice t →
    EndsBetween t device story.reported

-- it holds of each device of a world that begins from configurations of lives
abbrev pub OpenedOwnersFollow : Type 0
OpenedOwnersFollow =
    (configs : List Config) (acts : List Act) (story : Story) (device : ℕ) (t : DeviceTable) →
    AreLives configs → runs (begins (opening_world configs)) acts ≡ Ok story →
    slice_get (opening_world configs).tables device ≡ Some t → EndsBetween t device story.reported
