-- What the search for a schedule answers: one whose events are the histories, or where it ends.
use Rattle.std.specs.Prelude.{◌≡◌, ◌<◌, ℕ, List, [], ◌∷◌, ◌++◌, length, slice_get, slice_index, Option, Some, Ok}
use Rattle.cip_events.specs.declared.event.Event.{Event}
use Rattle.cip_tables.specs.declared.table.DeviceTable.{DeviceTable}
use Rattle.segment_world.specs.declared.act.Act.{Act}
use Rattle.segment_world.specs.declared.fault.WorldFault.{WorldFault}
use Rattle.segment_world.specs.declared.fault.WorldFault.TheVariants as world
use Rattle.segment_world.specs.Story.{Story, begins, events_of, runs}
use Rattle.segment_world.specs.World.{World}
use Rattle.settling.specs.declared.search.place.Unplaced.{Unplaced}
use Rattle.settling.specs.declared.search.place.Unplaced.TheVariants as unplaced
use Rattle.settling.specs.Search.Openings.{opens}
use Rattle.settling.specs.Search.Replays.{AreAnswered}
use Rattle.settling.specs.Search.Schedules.{Begins, IsStuck, Orderly, Stuck, history, remaining}

-- what is wrong with the configurations, unless a copy of them was refused
abbrev pub IsWrong : Option WorldFault → WorldFault → Type 0
IsWrong wrong world.OutOfMemory = Unit {0}
IsWrong wrong fault = wrong ≡ Some fault

-- each history's events are answered from the opening table on
abbrev pub AllAnswered : World → List (List Event) → Type 0
AllAnswered start hs = (i : ℕ) (t : DeviceTable) → slice_get start.tables i ≡ Some t → AreAnswered t (history hs i)

-- the streams are opened first
abbrev pub OpensFirst : World → List (List Event) → List Act → Type 0
OpensFirst start hs acts = (later : List Act) × (acts ≡ opens start.nodes hs ++ later)

-- WHERE THE EVENTS CANNOT BE PLACED

-- An orderly schedule that opens the streams first, after which no device's next event can happen. The k-th event of
-- this device is still to come, and each device with a lower byte has none to come.
pub record LeftOver (start : World) (hs : List (List Event)) (bytes : List ℕ) (device k : ℕ) : Type 0 where
  pub later : List Act
  pub story : Story
  pub runs_so : runs (begins start) (opens start.nodes hs ++ later) ≡ Ok story
  pub starts : Begins hs story
  pub orderly : Orderly hs (runs (begins start) (opens start.nodes hs)) later
  pub stuck : Stuck hs story
  pub place : length (events_of device story.reported) ≡ k
  pub over : (e : Event) × (es : List Event) × (remaining hs story.reported device ≡ e ∷ es)
  pub lowest : (i : ℕ) → i < length hs → slice_index bytes i < slice_index bytes device → remaining hs story.reported i ≡ []

-- why the events were not placed from a world in which the streams are open, and from the one before
abbrev pub Explains : World → List (List Event) → List ℕ → Unplaced → Type 0
Explains start hs bytes (unplaced.Uncaused device place) = IsStuck start hs bytes device place
Explains start hs bytes unplaced.OutOfMemory = Unit {0}

abbrev pub WhyUnplaced : World → List (List Event) → List ℕ → Unplaced → Type 0
WhyUnplaced start hs bytes (unplaced.Uncaused device place) = LeftOver start hs bytes device place
WhyUnplaced start hs bytes unplaced.OutOfMemory = Unit {0}
