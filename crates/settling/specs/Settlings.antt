-- What settling answers: a schedule for histories and receipts, or why there is none.
use Rattle.std.specs.Prelude.{◌≡◌, ℕ, List, [], ◌∷◌, slice_get, slice_index, None, Some, Ok}
use Rattle.device_lock.specs.declared.receipt.Receipt.{Receipt}
use Rattle.device_lock.specs.Histories.{HistoryValue}
use Rattle.segment_world.specs.declared.act.Act.{Act}
use Rattle.segment_world.specs.Configs.{world_fault}
use Rattle.segment_world.specs.Story.{Story}
use Rattle.settling.specs.Search.Histories.{bytes_of, configs_of, events_of_all, start_of}
use Rattle.settling.specs.Search.Schedules.{Settles, outcomes_of}
use Rattle.settling.specs.Search.Searches.{LeftOver, OpensFirst}
use Rattle.settling.specs.declared.settled.Unsettled.{Unsettled}
use Rattle.settling.specs.declared.settled.Unsettled.TheVariants.{Foreign, Missing, Uncaused, OutOfMemory}
use Rattle.settling.specs.Receipts.{AllGood, Covered, IsForeign, IsMissing, place_of}
use Rattle.settling.specs.SharedIds.{ShareNoIds}

-- A SCHEDULE FOR HISTORIES AND RECEIPTS

-- the receipt has its event and its answer at its place in the story
pub record Stands (hs : List HistoryValue) (s : Story) (r : Receipt) : Type 0 where
  pub place : ℕ × ℕ
  pub place_is : place_of hs r ≡ Some place
  pub is : slice_get (outcomes_of place.0 s.reported) place.1 ≡ Some (r.event, Ok r.answer)

abbrev pub AllStand : List HistoryValue → Story → List Receipt → Type 0
AllStand hs s [] = Unit {0}
AllStand hs s (r ∷ rs) = Stands hs s r × AllStand hs s rs

-- No act of the schedule faults, and its events are the histories. It opens the streams first. Each receipt stands at
-- its place with the schedule's answer, no two are for one event, and each event has one.
pub record SettlesAll (hs : List HistoryValue) (rs : List Receipt) (acts : List Act) : Type 0 where
  pub settled : Settles (start_of hs) (events_of_all hs) acts
  pub opens_first : OpensFirst (start_of hs) (events_of_all hs) acts
  pub stand : AllStand hs settled.story rs
  pub once : AllGood hs [] rs
  pub covered : Covered hs rs

-- They settle so, a world can be made of the histories' configurations, and no two devices have a connection id in common at its end.
pub record SettlesApart (hs : List HistoryValue) (rs : List Receipt) (acts : List Act) : Type 0 where
  pub valid : world_fault (configs_of hs) ≡ None
  pub apart : ShareNoIds hs
  pub settles : SettlesAll hs rs acts

-- All receipts are good, and each event has one. The events cannot be placed, and of the devices with events to come
-- this is the one with the lowest byte.
pub record IsUncaused (hs : List HistoryValue) (rs : List Receipt) (byte index : ℕ) : Type 0 where
  pub good : AllGood hs [] rs
  pub covered : Covered hs rs
  pub device : ℕ
  pub byte_is : slice_index (bytes_of hs) device ≡ byte
  pub left : LeftOver (start_of hs) (events_of_all hs) (bytes_of hs) device index

abbrev pub WhyNot : List HistoryValue → List Receipt → Unsettled → Type 0
WhyNot hs rs (Foreign byte index) = IsForeign hs rs byte index
WhyNot hs rs (Missing byte index) = IsMissing hs rs byte index
WhyNot hs rs (Uncaused byte index) = IsUncaused hs rs byte index
WhyNot hs rs OutOfMemory = Unit {0}
