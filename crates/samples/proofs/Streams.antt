-- Samples of streams: their queues, and the queues when a stream ends.
use Rattle.std.proofs.Common.{◌≡◌, refl, ℕ, List, [], ◌∷◌, Err}
use Rattle.cip_events.specs.declared.event.Event.TheVariants.{StreamOpened, StreamCut, Frame}
use Rattle.cip_events.specs.declared.event.Notice.TheVariants.{StreamClosed}
use Rattle.cip_events.specs.declared.event.Recipient.TheVariants as to
use Rattle.cip_events.specs.declared.event.StepFault.TheVariants.{NotAllowedNow}
use Rattle.cip_events.specs.declared.event.Verdict.TheVariants.{Done}
use Rattle.cip_tables.specs.Run.{table_after}
use Rattle.segment_world.specs.declared.transit.direction.Direction.TheVariants.{Forth, Back}
use Rattle.segment_world.specs.Transit.Streams.{QueueItem, Opening, Queued, Ending, Side, Stream, frames_sent, notices_applied}
use Rattle.segment_world.specs.declared.act.Act.TheVariants.{NextFrame, OpenStream, CutStream}
use Rattle.segment_world.specs.declared.act.ActFault.TheVariants.{StreamEmpty, NoSuchStream, Step}
use Rattle.segment_world.specs.World.{World}
use Rattle.samples.specs.Hex.{hex}
use Rattle.samples.specs.Devices.{fresh, common, other}
use Rattle.samples.specs.Messages.{message, register}
use Rattle.samples.specs.Worlds.{neighbour, home, two, with_tables, knowing, unknowing, living, ended, over, after, says, nothing, reports, takes}
use Rattle.samples.proofs.WorldPlaying.{playing}

-- ---- a stream opens

marks_wait_at_both_ends :
    (after two (OpenStream 0 1 ∷ [])).streams
    ≡ living (unknowing (Opening ∷ [])) (unknowing (Opening ∷ [])) ∷ []
unfolding playing
marks_wait_at_both_ends = refl

each_end_learns_of_the_other_once :
    says two (OpenStream 0 1 ∷ NextFrame 0 Forth ∷ NextFrame 0 Forth ∷ NextFrame 0 Back ∷ NextFrame 0 Back ∷ [])
    ≡ nothing ∷ takes 1 (StreamOpened 0 home) ∷ Err StreamEmpty ∷ takes 0 (StreamOpened 0 other) ∷ Err StreamEmpty ∷ []
unfolding playing
each_end_learns_of_the_other_once = refl

streams_are_numbered_from_zero :
    says two (OpenStream 0 1 ∷ OpenStream 1 0 ∷ NextFrame 1 Forth ∷ NextFrame 0 Forth ∷ NextFrame 2 Forth ∷ [])
    ≡ nothing ∷ nothing ∷ takes 0 (StreamOpened 1 other) ∷ takes 1 (StreamOpened 0 home) ∷ Err NoSuchStream ∷ []
unfolding playing
streams_are_numbered_from_zero = refl

-- ---- frames

-- the second device has the stream, and maybe a session on it
abbrev accepted : World
accepted = with_tables (fresh common) (table_after (fresh neighbour) (StreamOpened 0 home ∷ []))

abbrev in_session : World
in_session = with_tables (fresh common) (table_after (fresh neighbour) (StreamOpened 0 home ∷ Frame 0 register ∷ []))

abbrev registered : List ℕ
registered = message 0x65 1 0 (hex "01 00 00 00")

-- the answer waits for the other end, behind the items that waited there
a_frame_is_taken_and_answered :
    says (over (living (knowing (Queued register ∷ [])) (unknowing (Opening ∷ []))) accepted) (NextFrame 0 Forth ∷ NextFrame 0 Forth ∷ [])
    ≡ reports 1 (Frame 0 register) (record { frames = record { to = to.Stream 0; bytes = registered } ∷ []; datagrams = []; verdict = Done; notices = [] })
    ∷ Err StreamEmpty ∷ []
unfolding playing
a_frame_is_taken_and_answered = refl

an_answer_waits_behind_what_waits :
    (after (over (living (knowing (Queued register ∷ [])) (unknowing (Opening ∷ []))) accepted) (NextFrame 0 Forth ∷ [])).streams
    ≡ living (knowing []) (unknowing (Opening ∷ Queued registered ∷ [])) ∷ []
unfolding playing
an_answer_waits_behind_what_waits = refl

-- the device does not have the stream, so the frame stays, however often it is tried
a_refused_frame_stays :
    says (over (living (knowing (Queued register ∷ [])) (knowing [])) two) (NextFrame 0 Forth ∷ NextFrame 0 Forth ∷ [])
    ≡ Err (Step NotAllowedNow) ∷ Err (Step NotAllowedNow) ∷ []
unfolding playing
a_refused_frame_stays = refl

-- a frame of a device over the stream of this number
abbrev sends : ℕ → ℕ → Stream → List Stream
sends device number s = frames_sent device (s ∷ []) (record { to = to.Stream number; bytes = register } ∷ [])

abbrev idle : Stream
idle = living (knowing []) (knowing [])

the_first_sends_forth : sends 0 0 idle ≡ living (knowing (Queued register ∷ [])) (knowing []) ∷ []
unfolding playing
the_first_sends_forth = refl

the_second_sends_back : sends 1 0 idle ≡ living (knowing []) (knowing (Queued register ∷ [])) ∷ []
unfolding playing
the_second_sends_back = refl

a_device_without_the_stream_sends_nothing : sends 2 0 idle ≡ idle ∷ []
unfolding playing
a_device_without_the_stream_sends_nothing = refl

nothing_is_sent_over_a_stream_that_is_not_there : sends 0 1 idle ≡ idle ∷ []
unfolding playing
nothing_is_sent_over_a_stream_that_is_not_there = refl

nothing_is_sent_over_a_stream_that_has_ended : sends 0 0 (ended (knowing []) (knowing (Ending ∷ []))) ≡ ended (knowing []) (knowing (Ending ∷ [])) ∷ []
unfolding playing
nothing_is_sent_over_a_stream_that_has_ended = refl

-- ---- a cut

-- a stream after a cut
abbrev cut : Stream → List Stream
cut s = (after (over s two) (CutStream 0 ∷ [])).streams

frames_are_lost_and_both_ends_learn_it :
    cut (living (knowing (Queued register ∷ Queued registered ∷ [])) (knowing (Queued register ∷ [])))
    ≡ ended (knowing (Ending ∷ [])) (knowing (Ending ∷ [])) ∷ []
unfolding playing
frames_are_lost_and_both_ends_learn_it = refl

an_end_that_never_knew_of_it_learns_nothing :
    cut (living (unknowing (Opening ∷ Queued register ∷ [])) (knowing []))
    ≡ ended (unknowing []) (knowing (Ending ∷ [])) ∷ []
unfolding playing
an_end_that_never_knew_of_it_learns_nothing = refl

nobody_learns_what_nobody_knew :
    cut (living (unknowing (Opening ∷ [])) (unknowing (Opening ∷ []))) ≡ ended (unknowing []) (unknowing []) ∷ []
unfolding playing
nobody_learns_what_nobody_knew = refl

a_cut_is_learnt_once :
    says (over (living (knowing (Queued register ∷ [])) (unknowing (Opening ∷ []))) accepted) (CutStream 0 ∷ NextFrame 0 Forth ∷ NextFrame 0 Forth ∷ NextFrame 0 Back ∷ CutStream 0 ∷ [])
    ≡ nothing ∷ takes 1 (StreamCut 0) ∷ Err StreamEmpty ∷ Err StreamEmpty ∷ Err NoSuchStream ∷ []
unfolding playing
a_cut_is_learnt_once = refl

-- the other end receives the mark once
a_cut_of_what_has_ended : cut (ended (knowing []) (knowing (Ending ∷ []))) ≡ ended (knowing []) (knowing (Ending ∷ [])) ∷ []
unfolding playing
a_cut_of_what_has_ended = refl

-- ---- an end that closes

abbrev unregister : List ℕ
unregister = message 0x66 1 0 []

-- the stream after the second device closes it
abbrev closed : List QueueItem → Side → List Stream
closed rest back = (after (over (living (knowing (Queued unregister ∷ rest)) back) in_session) (NextFrame 0 Forth ∷ [])).streams

a_device_reports_that_it_closes :
    says (over (living (knowing (Queued unregister ∷ [])) (knowing [])) in_session) (NextFrame 0 Forth ∷ [])
    ≡ reports 1 (Frame 0 unregister) (record { frames = []; datagrams = []; verdict = Done; notices = StreamClosed 0 ∷ [] }) ∷ []
unfolding playing
a_device_reports_that_it_closes = refl

the_other_end_alone_learns_it :
    closed (Queued register ∷ []) (knowing (Queued registered ∷ [])) ≡ ended (knowing []) (knowing (Ending ∷ [])) ∷ []
unfolding playing
the_other_end_alone_learns_it = refl

nor_does_it_where_it_never_knew :
    closed (Queued register ∷ []) (unknowing (Opening ∷ Queued registered ∷ [])) ≡ ended (knowing []) (unknowing []) ∷ []
unfolding playing
nor_does_it_where_it_never_knew = refl

-- the first device closes the stream, if it has it
the_first_closes :
    notices_applied 0 (living (knowing (Queued register ∷ [])) (knowing (Queued registered ∷ [])) ∷ []) (StreamClosed 0 ∷ [])
    ≡ ended (knowing (Ending ∷ [])) (knowing []) ∷ []
unfolding playing
the_first_closes = refl

another_device_closes_nothing : notices_applied 2 (idle ∷ []) (StreamClosed 0 ∷ []) ≡ idle ∷ []
unfolding playing
another_device_closes_nothing = refl

what_has_closed_is_no_stream :
    says (over (living (knowing (Queued unregister ∷ [])) (knowing [])) in_session) (NextFrame 0 Forth ∷ CutStream 0 ∷ NextFrame 0 Forth ∷ [])
    ≡ reports 1 (Frame 0 unregister) (record { frames = []; datagrams = []; verdict = Done; notices = StreamClosed 0 ∷ [] }) ∷ Err NoSuchStream ∷ Err StreamEmpty ∷ []
unfolding playing
what_has_closed_is_no_stream = refl
