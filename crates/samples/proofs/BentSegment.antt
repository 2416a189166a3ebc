-- The laws of the devices on a segment refuse chronicles that were bent against them.
use Rattle.std.proofs.Common.{◌≡◌, Bool, true, false, List, [], ◌∷◌, map, Some, refl}
use Rattle.cip_tables.specs.declared.table.DeviceTable.{DeviceTable}
use Rattle.segment_world.specs.Transit.Log.{Sent}
use Rattle.segment_world.specs.declared.act.Act.TheVariants.{Local}
use Rattle.segment_world.specs.declared.act.Call.TheVariants as call
use Rattle.segment_world.specs.World.{ReportedEvent, World}
use Rattle.schedule_laws.specs.Chronicle.{Chronicle}
use Rattle.schedule_laws.specs.Lives.{DifferInAddress}
use Rattle.schedule_laws.specs.Devices.{DevicesStand}
use Rattle.schedule_laws.specs.Indexes.{IsWellProduced}
use Rattle.schedule_laws.specs.Marks.{StreamsFollowMarks}
use Rattle.samples.specs.Playing.{playing}
use Rattle.samples.specs.Schedules.{meets, observed, owned, played}
use Rattle.samples.specs.Stories.{twice_written}
use Rattle.samples.specs.SegmentTests.{act_marked, keeps_node, nodes_differ, stream_marked, streams_stand, texts_are_sent}
use Rattle.samples.proofs.SegmentTesting.{act_passes, differ_passes, marked_passes, node_passes, sent_passes, stand_passes}
use Rattle.samples.proofs.Passing.{LawAt, refuses}

abbrev of_segment : Chronicle → List Bool
of_segment c =
    texts_are_sent c ∷ keeps_node 0 c ∷ keeps_node 1 c ∷ nodes_differ 0 1 c ∷ streams_stand 0 c ∷ streams_stand 1 c ∷ stream_marked 0 0 c ∷ stream_marked 1 0 c
    ∷ act_marked (Local 1 (call.Start 0)) c ∷ []

writes_stand : observed of_segment (played owned twice_written) ≡ Some (true ∷ true ∷ true ∷ true ∷ true ∷ true ∷ true ∷ true ∷ true ∷ [])
unfolding playing
writes_stand = refl

abbrev in_world : (World → World) → Chronicle → Chronicle
in_world f c = record c { story = record { world = f c.story.world; reported = c.story.reported } }

abbrev StandIn : Chronicle → Type 0
StandIn c = DevicesStand owned c

-- ---- what was sent

abbrev in_other_name : Sent → Sent
in_other_name s = record s { from = record { 0 = 0xC0A80115 } }

-- each datagram has another sender
abbrev sent_by_another : Chronicle → Chronicle
sent_by_another c = in_world (λ w. record w { sent = map in_other_name w.sent }) c

another_fails : observed (λ c. texts_are_sent (sent_by_another c)) (played owned twice_written) ≡ Some false
unfolding playing
another_fails = refl

another_sender_is_refused : LawAt IsWellProduced sent_by_another (played owned twice_written) → ⊥
another_sender_is_refused law = refuses IsWellProduced texts_are_sent sent_passes sent_by_another (played owned twice_written) another_fails law

-- one datagram was sent twice
abbrev first_twice : List Sent → List Sent
first_twice [] = []
first_twice (s ∷ rest) = s ∷ s ∷ rest

abbrev sent_twice : Chronicle → Chronicle
sent_twice c = in_world (λ w. record w { sent = first_twice w.sent }) c

twice_fails : observed (λ c. texts_are_sent (sent_twice c)) (played owned twice_written) ≡ Some false
unfolding playing
twice_fails = refl

a_second_sending_is_refused : LawAt IsWellProduced sent_twice (played owned twice_written) → ⊥
a_second_sending_is_refused law = refuses IsWellProduced texts_are_sent sent_passes sent_twice (played owned twice_written) twice_fails law

-- ---- addresses

-- the devices have each other's addresses
abbrev moved : Chronicle → Chronicle
moved c = in_world (λ w. record w { nodes = record { 0 = 0xC0A80114 } ∷ record { 0 = 0xC0A8010A } ∷ [] }) c

moved_fails : observed (λ c. keeps_node 0 (moved c)) (played owned twice_written) ≡ Some false
unfolding playing
moved_fails = refl

another_address_is_refused : LawAt StandIn moved (played owned twice_written) → ⊥
another_address_is_refused law = refuses StandIn (keeps_node 0) (node_passes owned 0) moved (played owned twice_written) moved_fails law

-- a second device is the first one
abbrev first_doubled : List DeviceTable → List DeviceTable
first_doubled [] = []
first_doubled (t ∷ rest) = t ∷ t ∷ rest

abbrev doubled : Chronicle → Chronicle
doubled c = in_world (λ w. record w { tables = first_doubled w.tables }) c

doubled_fails : observed (λ c. nodes_differ 0 1 (doubled c)) (played owned twice_written) ≡ Some false
unfolding playing
doubled_fails = refl

one_address_each : DifferInAddress owned
unfolding playing
one_address_each = refl

one_address_of_two_is_refused : LawAt StandIn doubled (played owned twice_written) → ⊥
one_address_of_two_is_refused law = refuses StandIn (nodes_differ 0 1) (differ_passes owned one_address_each 0 1) doubled (played owned twice_written) doubled_fails law

-- ---- streams

-- the world has no stream
abbrev unjoined : Chronicle → Chronicle
unjoined c = in_world (λ w. record w { streams = [] }) c

adapters_unjoined : observed (λ c. streams_stand 0 (unjoined c)) (played owned twice_written) ≡ Some false
unfolding playing
adapters_unjoined = refl

an_adapters_stream_without_one_is_refused : LawAt StandIn unjoined (played owned twice_written) → ⊥
an_adapters_stream_without_one_is_refused law = refuses StandIn (streams_stand 0) (stand_passes owned 0) unjoined (played owned twice_written) adapters_unjoined law

scanners_unjoined : observed (λ c. streams_stand 1 (unjoined c)) (played owned twice_written) ≡ Some false
unfolding playing
scanners_unjoined = refl

a_scanners_stream_without_one_is_refused : LawAt StandIn unjoined (played owned twice_written) → ⊥
a_scanners_stream_without_one_is_refused law = refuses StandIn (streams_stand 1) (stand_passes owned 1) unjoined (played owned twice_written) scanners_unjoined law

-- ---- marks

abbrev of_another_device : ReportedEvent → ReportedEvent
of_another_device reported = record reported { device = 5 }

-- another device received the marks
abbrev unmarked : Chronicle → Chronicle
unmarked c = record c { story = record { world = c.story.world; reported = map of_another_device c.story.reported } }

unmarked_fails : observed (λ c. stream_marked 1 0 (unmarked c)) (played owned (meets 1 0)) ≡ Some false
unfolding playing
unmarked_fails = refl

a_stream_without_its_mark_is_refused : LawAt StreamsFollowMarks unmarked (played owned (meets 1 0)) → ⊥
a_stream_without_its_mark_is_refused law = refuses StreamsFollowMarks (stream_marked 1 0) (marked_passes 1 0) unmarked (played owned (meets 1 0)) unmarked_fails law

-- and the Forward_Open goes over that stream
sending_fails : observed (λ c. act_marked (Local 1 (call.Start 0)) (unmarked c)) (played owned (meets 1 0)) ≡ Some false
unfolding playing
sending_fails = refl

a_frame_before_the_mark_is_refused : LawAt StreamsFollowMarks unmarked (played owned (meets 1 0)) → ⊥
a_frame_before_the_mark_is_refused law = refuses StreamsFollowMarks (act_marked (Local 1 (call.Start 0))) (act_passes (Local 1 (call.Start 0))) unmarked (played owned (meets 1 0)) sending_fails law
