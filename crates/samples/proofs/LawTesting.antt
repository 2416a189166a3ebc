-- The laws of order, at every schedule, give the tests that their chronicle passes. A law with one premise more, or of fewer
-- schedules, gives them no more.
use Rattle.std.proofs.Common.{◌≡◌, ℕ, true, List, Option, Some, None, Ok}
use Rattle.std.specs.List.{Contains}
use Rattle.cip_tables.specs.declared.table.Config.{Config}
use Rattle.cip_tables.specs.declared.table.DeviceTable.{DeviceTable}
use Rattle.cip_tables.specs.declared.table.DeviceTable.TheVariants.{Adapter, Scanner}
use Rattle.segment_world.specs.declared.act.Act.{Act}
use Rattle.segment_world.specs.Configs.{opening_world, world_fault}
use Rattle.schedule_laws.specs.Chronicle.{Acceptance, Chronicle, blank, chronicles}
use Rattle.schedule_laws.specs.Lives.{AreApart, DifferInAddress}
use Rattle.schedule_laws.specs.Devices.{SchedulesKeepDevices}
use Rattle.schedule_laws.specs.Indexes.{ProducedInOrder}
use Rattle.schedule_laws.specs.MadeOnce.{AnIdOpensOneConnection, SchedulesUseIdsOnce}
use Rattle.schedule_laws.specs.Marks.{SchedulesFollowMarks}
use Rattle.schedule_laws.specs.Names.{AnIdNamesOneOpening, SchedulesAcceptOneOpening, SchedulesNameOpenings}
use Rattle.schedule_laws.specs.Order.{AcceptedIndexesRise, IsChronicle, KeepsHalfCircle, ProducedAsWritten}
use Rattle.schedule_laws.specs.Producers.{AreMoments, LaterAcceptNothingOlder, LaterConnectionsAcceptNothingOlder, SchedulesNameOneProducer}
use Rattle.schedule_laws.specs.Restarts.{IsNew, LivesAreNamedByIds, LivesDrewIds, NewLivesTakeNothingOlder, TakesNothingOlder}
use Rattle.schedule_laws.specs.Lemmas.Lives.{worlds_are_lives}
use Rattle.schedule_laws.specs.Images.{GatheredInOrder, SchedulesGatherImages}
use Rattle.schedule_laws.specs.Outputs.{AppliedInOrder}
use Rattle.schedule_laws.specs.Written.{AcceptedDataWereWritten, GatheredDataWereInput}
use Rattle.schedule_laws.specs.JoinedPoints.{HavePaths, SchedulesJoinPoints}
use Rattle.samples.specs.Oracle.{rises}
use Rattle.samples.specs.ImageTests.{images_gathered, images_produced, outputs_written, scanners_accept}
use Rattle.samples.specs.MomentTests.{was_input, was_written}
use Rattle.samples.specs.NameTests.{accept_one_opening, adapters_produce_by_entries, are_entries, device_of, has_entries, is_adapter, is_scanner, one_has_it, one_makes, one_sends, one_slot_makes, scanners_produce_by_entries, slots_accept_by_entries, unused_before, used_once, were_produced}
use Rattle.samples.specs.SegmentTests.{act_marked, keeps_node, nodes_differ, stream_marked, streams_stand, texts_are_sent}
use Rattle.samples.specs.Tests.{are_named, are_numbered, joins_points, outputs_hold}
use Rattle.samples.proofs.ImageTesting.{gathered_passes, produced_passes, scanners_accept_passes, written_passes}
use Rattle.samples.proofs.MomentTesting.{input_passes, value_passes}
use Rattle.samples.proofs.NameTesting.{accepts_by_entries, adapters_produce_passes, are_entries_passes, entries_pass, one_has_it_passes, one_makes_passes, one_opening_passes, one_sends_passes, one_slot_passes, scanners_produce_passes, unused_passes, used_once_passes, were_produced_passes}
use Rattle.samples.proofs.SegmentTesting.{act_passes, differ_passes, marked_passes, node_passes, sent_passes, stand_passes}
use Rattle.samples.proofs.Testing.{accept_passes, hold_passes, join_passes, order_passes, rise_passes}

-- ---- of each schedule

-- what is produced
record AreProduced (c : Chronicle) : Type 0 where
  sent : texts_are_sent c ≡ true
  numbered : are_numbered c ≡ true

productions_pass : ProducedInOrder → (configs : List Config) (acts : List Act) (c : Chronicle) → IsChronicle configs acts c → AreProduced c
productions_pass law configs acts c is = let holds = law configs acts c is in record { sent = sent_passes c holds; numbered = order_passes c holds.order }

outputs_pass : ProducedAsWritten → (configs : List Config) (acts : List Act) (c : Chronicle) (device : ℕ) → IsChronicle configs acts c → outputs_written configs device c ≡ true
outputs_pass law configs acts c device is = written_passes configs device c (law configs acts c is)

-- whose ids are
record AreNamed (c : Chronicle) (device : ℕ) : Type 0 where
  entries : are_entries c ≡ true
  has : has_entries device c ≡ true
  scanners : scanners_produce_by_entries c ≡ true
  adapters : adapters_produce_by_entries c ≡ true
  accepted : slots_accept_by_entries c ≡ true
  produced : were_produced c ≡ true
  openings : accept_one_opening c ≡ true

names_pass : SchedulesNameOpenings → (configs : List Config) (acts : List Act) (c : Chronicle) (device : ℕ) → IsChronicle configs acts c → AreNamed c device
names_pass law configs acts c device is = let holds = law configs acts c is in record {
  entries = are_entries_passes c holds;
  has = entries_pass device c holds;
  scanners = scanners_produce_passes c holds;
  adapters = adapters_produce_passes c holds;
  accepted = accepts_by_entries c holds;
  produced = were_produced_passes c holds;
  openings = one_opening_passes c holds.openings;
}

openings_pass : SchedulesAcceptOneOpening → (configs : List Config) (acts : List Act) (c : Chronicle) → IsChronicle configs acts c → accept_one_opening c ≡ true
openings_pass law configs acts c is = one_opening_passes c (law configs acts c is)

one_opening_has_it : AnIdNamesOneOpening → (configs : List Config) (acts : List Act) (c : Chronicle) → IsChronicle configs acts c → one_slot_makes c ≡ true
one_opening_has_it law configs acts c is = one_slot_passes c (law configs acts c is)

one_connection_has_it : AnIdOpensOneConnection → (configs : List Config) (acts : List Act) (c : Chronicle) (device : ℕ) → IsChronicle configs acts c → one_has_it device c ≡ true
one_connection_has_it law configs acts c device is = one_has_it_passes device c (law configs acts c is)

-- how often an id is used
record AreUsed (c : Chronicle) (device counter : ℕ) : Type 0 where
  once : used_once device counter c ≡ true
  before : unused_before device counter c ≡ true

uses_pass : SchedulesUseIdsOnce → (configs : List Config) (acts : List Act) (c : Chronicle) (device counter : ℕ) → IsChronicle configs acts c → AreUsed c device counter
uses_pass law configs acts c device counter is =
    let holds = law configs acts c is in record { once = used_once_passes device counter c holds; before = unused_passes device counter c holds }

-- who has an id
record HaveOne (c : Chronicle) : Type 0 where
  makes : one_makes c ≡ true
  sends : one_sends c ≡ true

producers_pass : SchedulesNameOneProducer → (configs : List Config) (acts : List Act) (c : Chronicle) → IsChronicle configs acts c → HaveOne c
producers_pass law configs acts c is =
    let holds = law configs acts c is in record { makes = one_makes_passes c holds.productions; sends = one_sends_passes c holds.connections }

-- where devices and streams are
record AreStanding (configs : List Config) (c : Chronicle) (a b : ℕ) : Type 0 where
  node : keeps_node a c ≡ true
  apart : DifferInAddress configs → nodes_differ a b c ≡ true
  streams : streams_stand a c ≡ true

devices_pass : SchedulesKeepDevices → (configs : List Config) (acts : List Act) (c : Chronicle) (a b : ℕ) → IsChronicle configs acts c → AreStanding configs c a b
devices_pass law configs acts c a b is =
    let holds = law configs acts c is in record { node = node_passes configs a c holds; apart = λ once. differ_passes configs once a b c holds; streams = stand_passes configs a c holds }

-- which streams have their marks
record AreMarked (c : Chronicle) (device number : ℕ) (act : Act) : Type 0 where
  stream : stream_marked device number c ≡ true
  sends : act_marked act c ≡ true

marks_pass : SchedulesFollowMarks → (configs : List Config) (acts : List Act) (c : Chronicle) (device number : ℕ) (act : Act) → IsChronicle configs acts c → AreMarked c device number act
marks_pass law configs acts c device number act is = let holds = law configs acts c is in record { stream = marked_passes device number c holds; sends = act_passes act c holds }

gathering_passes : SchedulesGatherImages → (configs : List Config) (acts : List Act) (c : Chronicle) (device : ℕ) → IsChronicle configs acts c → images_gathered device c ≡ true
gathering_passes law configs acts c device is = gathered_passes device c (law configs acts c is)

written_before : AcceptedDataWereWritten → (configs : List Config) (acts : List Act) (c : Chronicle) → IsChronicle configs acts c → (a : Acceptance) (found : Option DeviceTable) → Contains c.accepted a → is_adapter found ≡ true → device_of c a.consumer.device ≡ found → was_written configs acts a.production ≡ true
written_before law configs acts c is a None there none at = absurd (let e = none in cc)
written_before law configs acts c is a (Some (Adapter t)) there some at = value_passes configs acts a.production (law configs acts c is a t there at)
written_before law configs acts c is a (Some (Scanner t)) there none at = absurd (let e = none in cc)

input_before : GatheredDataWereInput → (configs : List Config) (acts : List Act) (c : Chronicle) → IsChronicle configs acts c → (a : Acceptance) (found : Option DeviceTable) → Contains c.accepted a → is_scanner found ≡ true → device_of c a.consumer.device ≡ found → was_input configs acts a.production ≡ true
input_before law configs acts c is a None there none at = absurd (let e = none in cc)
input_before law configs acts c is a (Some (Adapter t)) there none at = absurd (let e = none in cc)
input_before law configs acts c is a (Some (Scanner t)) there some at = input_passes configs acts a.production (law configs acts c is a t there at)

-- ---- of each schedule whose paths are within their fields

points_pass : SchedulesJoinPoints → (configs : List Config) (acts : List Act) (c : Chronicle) (device : ℕ) → IsChronicle configs acts c → HavePaths configs → joins_points device c ≡ true
points_pass law configs acts c device is paths = join_passes device c (law configs acts c is paths)

-- ---- of each schedule that keeps the half-circle condition

rising_passes : AcceptedIndexesRise → (configs : List Config) (acts : List Act) (c : Chronicle) → IsChronicle configs acts c → KeepsHalfCircle configs acts → rises c.accepted ≡ true
rising_passes law configs acts c is near = rise_passes c.accepted (law configs acts c is near)

-- what adapters apply
record AreApplied (c : Chronicle) (device : ℕ) : Type 0 where
  named : are_named c ≡ true
  rising : rises c.accepted ≡ true
  hold : outputs_hold device c ≡ true

applying_passes : AppliedInOrder → (configs : List Config) (acts : List Act) (c : Chronicle) (device : ℕ) → IsChronicle configs acts c → KeepsHalfCircle configs acts → AreApplied c device
applying_passes law configs acts c device is near =
    let holds = law configs acts c is near in record { named = accept_passes c holds.one_opening; rising = rise_passes c.accepted holds.rising; hold = hold_passes device c holds.hold }

-- what scanners gather
record AreGathered (c : Chronicle) (device : ℕ) : Type 0 where
  named : scanners_accept c ≡ true
  rising : rises c.accepted ≡ true
  images : images_produced device c ≡ true

images_pass : GatheredInOrder → (configs : List Config) (acts : List Act) (c : Chronicle) (device : ℕ) → IsChronicle configs acts c → KeepsHalfCircle configs acts → AreGathered c device
images_pass law configs acts c device is near =
    let holds = law configs acts c is near in record { named = scanners_accept_passes c holds.one_producer; rising = rise_passes c.accepted holds.rising; images = produced_passes device c holds.images }

-- ---- of two moments

later_holds : LaterConnectionsAcceptNothingOlder → (configs : List Config) (was now : Chronicle) → AreMoments configs was now → LaterAcceptNothingOlder was now
later_holds law configs was now are = law configs was now are

new_life_holds : NewLivesTakeNothingOlder → (configs : List Config) (was now : Chronicle) (life : ℕ) → AreMoments configs was now → IsNew was life → TakesNothingOlder was now life
new_life_holds law configs was now life are new = law configs was now life are new

-- ---- of lives

named_by_ids : LivesAreNamedByIds → (configs : List Config) (acts : List Act) (c : Chronicle) → IsChronicle configs acts c → LivesDrewIds c
named_by_ids law configs acts c is = law configs acts c is

-- a world of devices is one of lives
worlds_pass : (configs : List Config) (acts : List Act) (c : Chronicle) → world_fault configs ≡ None → chronicles (Ok (blank (opening_world configs))) acts ≡ Ok c → AreApart c.story.world.tables → IsChronicle configs acts c
worlds_pass configs acts c none ran apart = record { lives = worlds_are_lives configs none; ran = ran; apart = apart }
