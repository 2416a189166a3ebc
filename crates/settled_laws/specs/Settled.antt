-- Histories and receipts that settle into a schedule have its chronicle, and the laws of order hold of it (Volume 1, chapter 3,
-- class 1 transport, network connection ids; Volume 2, chapter 2, sequenced address item).
use Rattle.std.specs.Prelude.{◌≡◌, List, None}
use Rattle.cip_tables.specs.declared.table.Config.{Config}
use Rattle.device_lock.specs.declared.receipt.Receipt.{Receipt}
use Rattle.device_lock.specs.Histories.{HistoryValue}
use Rattle.segment_world.specs.declared.act.Act.{Act}
use Rattle.segment_world.specs.Configs.{world_fault}
use Rattle.segment_world.specs.Lives.Stories.{StateNoIds}
use Rattle.schedule_laws.specs.Lives.{AreApart, GiveNoIds}
use Rattle.schedule_laws.specs.Chronicle.{Chronicle}
use Rattle.schedule_laws.specs.Devices.{DevicesStand}
use Rattle.schedule_laws.specs.Indexes.{IsWellProduced}
use Rattle.schedule_laws.specs.MadeOnce.{IdsAreUsedOnce, OneConnectionHasIt}
use Rattle.schedule_laws.specs.Marks.{StreamsFollowMarks}
use Rattle.schedule_laws.specs.Names.{IdsNameOpenings, OneOpeningHasTheId}
use Rattle.schedule_laws.specs.Order.{IsChronicle, KeepsHalfCircle, OutputsAreWritten}
use Rattle.schedule_laws.specs.Producers.{IdsNameOneProducer}
use Rattle.schedule_laws.specs.Images.{ImagesAreInOrder, ImagesWereGathered}
use Rattle.schedule_laws.specs.Outputs.{OutputsAreInOrder}
use Rattle.settling.specs.Search.Histories.{configs_of, events_of_all}
use Rattle.settling.specs.Search.Schedules.{Projects}
use Rattle.settling.specs.Settlings.{AllStand, SettlesAll, SettlesApart}
use Rattle.settling.specs.SharedIds.{ShareNoIds}

-- THE CHRONICLE

-- The chronicle of a schedule of the histories' devices. In its story the events of each device are the device's history, and
-- each receipt stands at its place with the schedule's answer.
pub record HasChronicle (hs : List HistoryValue) (rs : List Receipt) (acts : List Act) : Type 0 where
  pub chronicle : Chronicle
  pub is : IsChronicle (configs_of hs) acts chronicle
  pub projects : Projects (events_of_all hs) chronicle.story
  pub stand : AllStand hs chronicle.story rs

-- A schedule that settles histories and receipts has a chronicle, if a world can be made of the histories' configurations, and no
-- two devices have connection ids in common at its end.
abbrev pub SchedulesHaveChronicles : Type 0
SchedulesHaveChronicles =
    (hs : List HistoryValue) (rs : List Receipt) (acts : List Act) → world_fault (configs_of hs) ≡ None →
    (settles : SettlesAll hs rs acts) → AreApart settles.settled.story.world.tables → HasChronicle hs rs acts

-- Two devices have none in common there, if they have none in common after their histories.
abbrev pub SettledHistoriesAreApart : Type 0
SettledHistoriesAreApart =
    (hs : List HistoryValue) (rs : List Receipt) (acts : List Act) → ShareNoIds hs →
    (settles : SettlesAll hs rs acts) → AreApart settles.settled.story.world.tables

-- If no configuration states its ids, and no act of the schedule gives a device a further block, no two devices have connection ids
-- in common.
abbrev pub SettledWithoutIdsAreApart : Type 0
SettledWithoutIdsAreApart =
    (hs : List HistoryValue) (rs : List Receipt) (acts : List Act) → world_fault (configs_of hs) ≡ None → StateNoIds (configs_of hs) → GiveNoIds acts →
    (settles : SettlesAll hs rs acts) → AreApart settles.settled.story.world.tables

-- THE LAWS OF ORDER

-- the laws of order, at a chronicle
pub record IsInOrder (configs : List Config) (acts : List Act) (c : Chronicle) : Type 0 where
  pub produced : IsWellProduced c
  pub written : OutputsAreWritten c configs
  pub named : IdsNameOpenings c
  pub devices : DevicesStand configs c
  pub marks : StreamsFollowMarks c
  pub used_once : IdsAreUsedOnce c.story.world c.opened
  pub one_connection : OneConnectionHasIt c
  pub one_opening : OneOpeningHasTheId c
  pub one_producer : IdsNameOneProducer c
  pub gathered : ImagesWereGathered c
  pub outputs : KeepsHalfCircle configs acts → OutputsAreInOrder c
  pub images : KeepsHalfCircle configs acts → ImagesAreInOrder c

-- a chronicle of what happened, of which the laws of order hold
pub record HappenedInOrder (hs : List HistoryValue) (rs : List Receipt) (acts : List Act) : Type 0 where
  pub happened : HasChronicle hs rs acts
  pub order : IsInOrder (configs_of hs) acts happened.chronicle

-- So it is of each schedule that settles histories and receipts.
abbrev pub SettledLinesAreInOrder : Type 0
SettledLinesAreInOrder =
    (hs : List HistoryValue) (rs : List Receipt) (acts : List Act) → world_fault (configs_of hs) ≡ None →
    (settles : SettlesAll hs rs acts) → AreApart settles.settled.story.world.tables → HappenedInOrder hs rs acts

-- So it is of each such schedule in which no device has stated ids or a further block.
abbrev pub SettledWithoutIdsAreInOrder : Type 0
SettledWithoutIdsAreInOrder =
    (hs : List HistoryValue) (rs : List Receipt) (acts : List Act) → world_fault (configs_of hs) ≡ None → StateNoIds (configs_of hs) → GiveNoIds acts →
    SettlesAll hs rs acts → HappenedInOrder hs rs acts

-- So it is where histories and receipts settle, and no two devices have connection ids in common: nothing else is asked.
abbrev pub WhatSettlesApartIsInOrder : Type 0
WhatSettlesApartIsInOrder = (hs : List HistoryValue) (rs : List Receipt) (acts : List Act) → SettlesApart hs rs acts → HappenedInOrder hs rs acts
