-- Which slot of a scanner has an opening number, at two moments of one schedule of many devices (Volume 2, chapter 2, sender
-- context).
use Rattle.std.specs.Prelude.{ℕ, ◌≡◌, List, ◌++◌, slice_get, Some, Ok}
use Rattle.scanner_table.specs.declared.profile.ScannerProfile.{ScannerProfile}
use Rattle.scanner_table.specs.declared.table.ScannerTable.{ScannerTable}
use Rattle.scanner_table.specs.Slots.{IndexedSlot}
use Rattle.cip_tables.specs.declared.table.Config.{Config}
use Rattle.cip_tables.specs.declared.table.Config.TheVariants as config
use Rattle.cip_tables.specs.declared.table.DeviceTable.TheVariants.{Scanner}
use Rattle.segment_world.specs.declared.act.Act.{Act}
use Rattle.segment_world.specs.Configs.{opening_world}
use Rattle.segment_world.specs.Story.{Story, runs, begins}
use Rattle.schedule_laws.specs.OpeningNumbers.{HasOpening}

-- after the acts, the slot of the device of this place has the opening number
pub record HasOpeningAfter (configs : List Config) (acts : List Act) (device : ℕ) (place : IndexedSlot) (number : ℕ) : Type 0 where
  pub story : Story
  pub ran : runs (begins (opening_world configs)) acts ≡ Ok story
  pub table : ScannerTable
  pub there : slice_get story.world.tables device ≡ Some (Scanner table)
  pub has : HasOpening table place number

-- A slot of a scanner that has an opening number after some acts of a schedule, and a slot of it that has the number after any
-- more acts, are one slot.
abbrev pub SchedulesNameOneSlot : Type 0
SchedulesNameOneSlot =
    (configs : List Config) (acts more : List Act) (device : ℕ) (profile : ScannerProfile) (first later : IndexedSlot) (number : ℕ) →
    slice_get configs device ≡ Some (config.Scanner profile) →
    HasOpeningAfter configs acts device first number →
    HasOpeningAfter configs (acts ++ more) device later number →
    first.number ≡ later.number
