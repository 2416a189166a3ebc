-- The story of a settled schedule is that of a chronicle.
use Rattle.std.proofs.Common.{◌≡◌, List, Result, Ok, Err, refl, ◌∙◌, subst}
use Rattle.cip_tables.specs.declared.table.Config.{Config}
use Rattle.segment_world.specs.declared.act.Act.{Act}
use Rattle.segment_world.specs.declared.act.ActFault.{ActFault}
use Rattle.segment_world.specs.Configs.{opening_world}
use Rattle.segment_world.specs.Story.{Story, runs, begins}
use Rattle.schedule_laws.specs.Chronicle.{Chronicle, chronicles, blank}
use Rattle.schedule_laws.specs.Devices.{SchedulesKeepDevices}
use Rattle.schedule_laws.specs.Indexes.{ProducedInOrder}
use Rattle.schedule_laws.specs.MadeOnce.{AnIdOpensOneConnection, SchedulesUseIdsOnce}
use Rattle.schedule_laws.specs.Marks.{SchedulesFollowMarks}
use Rattle.schedule_laws.specs.Names.{AnIdNamesOneOpening, SchedulesNameOpenings}
use Rattle.schedule_laws.specs.Lives.{AreApart, SchedulesWithoutIdsAreApart}
use Rattle.schedule_laws.specs.Order.{IsChronicle, ProducedAsWritten}
use Rattle.schedule_laws.specs.Producers.{SchedulesNameOneProducer}
use Rattle.schedule_laws.specs.Images.{GatheredInOrder, SchedulesGatherImages}
use Rattle.schedule_laws.specs.Outputs.{AppliedInOrder}
use Rattle.schedule_laws.specs.Lemmas.Lives.{worlds_are_lives, worlds_differ_in_incarnation}
use Rattle.schedule_laws.specs.Lemmas.Stories.{chronicle_runs, story_in}
use Rattle.settling.specs.Search.Histories.{configs_of, events_of_all}
use Rattle.settling.specs.Search.Schedules.{Projects}
use Rattle.settling.specs.Settlings.{AllStand}
use Rattle.settled_laws.specs.Settled.{SchedulesHaveChronicles, IsInOrder, SettledHistoriesAreApart, SettledLinesAreInOrder, SettledWithoutIdsAreApart, SettledWithoutIdsAreInOrder, WhatSettlesApartIsInOrder}

-- ---- a schedule without a fault

-- the result is a chronicle with this story
record HasStory (result : Result Chronicle ActFault) (story : Story) : Type 0 where
  chronicle : Chronicle
  is : result ≡ Ok chronicle
  story_is : story ≡ chronicle.story

story_same : (a b : Story) → ◌≡◌ {A = Result Story ActFault} (Ok a) (Ok b) → b ≡ a
story_same a b e = cc

has_story : (result : Result Chronicle ActFault) (story : Story) → story_in result ≡ Ok story → HasStory result story
has_story (Err fault) story is = absurd (let e = is in cc)
has_story (Ok c) story is = record { chronicle = c; is = refl; story_is = story_same c.story story is }

runs_chronicle : (configs : List Config) (acts : List Act) (story : Story) → runs (begins (opening_world configs)) acts ≡ Ok story → HasStory (chronicles (Ok (blank (opening_world configs))) acts) story
runs_chronicle configs acts story is = has_story (chronicles (Ok (blank (opening_world configs))) acts) story (chronicle_runs acts (Ok (blank (opening_world configs))) ∙ is)

pub have_chronicles : SchedulesHaveChronicles
have_chronicles hs rs acts faultless settles apart =
    let settled = settles.settled in
    let found = runs_chronicle (configs_of hs) acts settled.story settled.runs_so in
    record {
      chronicle = found.chronicle;
      is = record { lives = worlds_are_lives (configs_of hs) faultless; ran = found.is; apart = subst (λ (s : Story). AreApart s.world.tables) found.story_is apart };
      projects = subst (Projects (events_of_all hs)) found.story_is settled.projects;
      stand = subst (λ (s : Story). AllStand hs s rs) found.story_is settles.stand;
    }

-- ---- the laws of order

pub record OrderLaws : Type 0 where
  pub produced : ProducedInOrder
  pub written : ProducedAsWritten
  pub named : SchedulesNameOpenings
  pub devices : SchedulesKeepDevices
  pub marks : SchedulesFollowMarks
  pub used_once : SchedulesUseIdsOnce
  pub one_connection : AnIdOpensOneConnection
  pub one_opening : AnIdNamesOneOpening
  pub one_producer : SchedulesNameOneProducer
  pub gathered : SchedulesGatherImages
  pub outputs : AppliedInOrder
  pub images : GatheredInOrder

chronicle_in_order : OrderLaws → (configs : List Config) (acts : List Act) (c : Chronicle) → IsChronicle configs acts c → IsInOrder configs acts c
chronicle_in_order laws configs acts c is = record {
  produced = laws.produced configs acts c is;
  written = laws.written configs acts c is;
  named = laws.named configs acts c is;
  devices = laws.devices configs acts c is;
  marks = laws.marks configs acts c is;
  used_once = laws.used_once configs acts c is;
  one_connection = laws.one_connection configs acts c is;
  one_opening = laws.one_opening configs acts c is;
  one_producer = laws.one_producer configs acts c is;
  gathered = laws.gathered configs acts c is;
  outputs = laws.outputs configs acts c is;
  images = laws.images configs acts c is;
}

pub lines_in_order : OrderLaws → SettledLinesAreInOrder
lines_in_order laws hs rs acts faultless settles apart =
    let happened = have_chronicles hs rs acts faultless settles apart in
    record { happened = happened; order = chronicle_in_order laws (configs_of hs) acts happened.chronicle happened.is }

-- ---- without further ids

pub without_ids_apart : SchedulesWithoutIdsAreApart → SettledWithoutIdsAreApart
without_ids_apart law hs rs acts faultless unstated none settles =
    law (configs_of hs) acts settles.settled.story (record { unstated = unstated; differ = worlds_differ_in_incarnation (configs_of hs) faultless }) none settles.settled.runs_so

pub without_ids_in_order : SettledWithoutIdsAreApart → SettledLinesAreInOrder → SettledWithoutIdsAreInOrder
without_ids_in_order apart order hs rs acts faultless unstated none settles =
    order hs rs acts faultless settles (apart hs rs acts faultless unstated none settles)

-- ---- where the devices share no ids

pub settled_in_order : SettledHistoriesAreApart → SettledLinesAreInOrder → WhatSettlesApartIsInOrder
settled_in_order apart order hs rs acts settles =
    order hs rs acts settles.valid settles.settles (apart hs rs acts settles.apart settles.settles)
