-- Lives of devices. A device that restarts is several devices of one world, one for each life: they have the device's address, and
-- ids of their own (Volume 2, chapter 2; Volume 1, chapter 3, network connection ids).
use Rattle.std.specs.Prelude.{ℕ, ◌≡◌, ◌≤◌, ◌<◌, Bool, false, List, slice_get, Some, None, Ok}
use Rattle.std.specs.List.{AllByRecursion}
use Rattle.cip_types.specs.Ids.{end_number, id_at}
use Rattle.cip_events.specs.Arrivals.{gives_ids}
use Rattle.cip_tables.specs.declared.table.Config.{Config}
use Rattle.cip_tables.specs.declared.table.DeviceTable.{DeviceTable}
use Rattle.cip_tables.specs.Whole.{ids_of}
use Rattle.segment_world.specs.declared.act.Act.{Act}
use Rattle.segment_world.specs.declared.act.Act.TheVariants.{Local}
use Rattle.segment_world.specs.World.{event_of_call}
use Rattle.segment_world.specs.Story.{Story, runs, begins}
use Rattle.segment_world.specs.Configs.{any_twice, first_fault, opening_world}
use Rattle.segment_world.specs.Lives.Stories.{StateNoIds}
use Rattle.segment_world.specs.declared.configs.DeviceKey.TheVariants.{Address, Incarnation}

-- Configurations of lives: no profile has a fault. Several may have one address.
pub record AreLives (configs : List Config) : Type 0 where
  pub profiles : first_fault configs ≡ None

-- the device's blocks have an id of this number
pub record HasNumber (t : DeviceTable) (number : ℕ) : Type 0 where
  pub begins : 1 ≤ number
  pub ends : number < end_number (ids_of t)

-- No two devices have blocks with one id. Blocks only grow, so what holds of the tables at the end of a schedule held at each
-- moment of it.
pub record AreApart (tables : List DeviceTable) : Type 0 where
  pub differ :
      (a b : ℕ) (t u : DeviceTable) (m n : ℕ) → slice_get tables a ≡ Some t → slice_get tables b ≡ Some u →
      HasNumber t m → HasNumber u n → (id_at (ids_of t) m).0 ≡ (id_at (ids_of u) n).0 → a ≡ b

-- THE IDS OF INCARNATIONS

-- none of the configurations states its ids, and no two have one incarnation: each begins with the ids of its own incarnation
pub record HaveOwnIncarnations (configs : List Config) : Type 0 where
  pub unstated : StateNoIds configs
  pub differ : any_twice Incarnation configs ≡ false

-- the act gives a device a further block of ids
abbrev pub act_gives_ids : Act → Bool
act_gives_ids (Local device call) = gives_ids (event_of_call call)
act_gives_ids other = false

-- none of the acts does
abbrev pub GiveNoIds : List Act → Type 0
GiveNoIds acts = AllByRecursion (λ act. act_gives_ids act ≡ false) acts

-- So a schedule in which no device is given a further block keeps the devices apart.
abbrev pub SchedulesWithoutIdsAreApart : Type 0
SchedulesWithoutIdsAreApart =
    (configs : List Config) (acts : List Act) (story : Story) → HaveOwnIncarnations configs → GiveNoIds acts →
    runs (begins (opening_world configs)) acts ≡ Ok story → AreApart story.world.tables

-- no two of the configurations have one address: each device has one life
abbrev pub DifferInAddress : List Config → Type 0
DifferInAddress configs = any_twice Address configs ≡ false
