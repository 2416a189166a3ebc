-- One act changes streams alone, or makes one event of one device, which the device answers. A property of all queued frames
-- holds after it as before.
use Rattle.std.proofs.Common.{◌≡◌, ℕ, Bool, true, false, cond, List, [], ◌∷◌, set, slice_get, Option, Some, None, Result, Ok, Err, IfOk, refl}
use Rattle.std.specs.List.{AllByRecursion}
use Rattle.cip_events.specs.declared.event.Answer.{Answer}
use Rattle.cip_events.specs.declared.event.Event.{Event}
use Rattle.cip_events.specs.declared.event.Frame.{Frame as SentFrame}
use Rattle.cip_events.specs.declared.event.Notice.{Notice}
use Rattle.cip_events.specs.declared.event.Notice.TheVariants as notice
use Rattle.cip_events.specs.declared.event.Recipient.{Recipient}
use Rattle.cip_events.specs.declared.event.Recipient.TheVariants as recipient
use Rattle.cip_events.specs.declared.event.Event.TheVariants.{Request, Frame, Datagram}
use Rattle.cip_events.specs.declared.event.StepFault.{StepFault}
use Rattle.cip_types.specs.declared.names.Node.{Node}
use Rattle.cip_tables.specs.declared.table.DeviceTable.{DeviceTable}
use Rattle.cip_tables.specs.Step.{DeviceNext, step}
use Rattle.segment_world.specs.Transit.Log.{Sent}
use Rattle.segment_world.specs.declared.transit.direction.Direction.{Direction}
use Rattle.segment_world.specs.declared.transit.direction.Direction.TheVariants.{Forth, Back}
use Rattle.segment_world.specs.Transit.Streams.{QueueItem, Opening, Queued, Ending, Side, Stream, side_of, receiver, sender, way_from, changed, with_stream, queued, sent_along, sent_over, frame_sent, frames_sent, ended_side, cut_stream, closed_along, closed_by, notice_applied, notices_applied, answered, without_first, taken_from, fresh_stream}
use Rattle.segment_world.specs.declared.act.Act.{Act}
use Rattle.segment_world.specs.declared.act.Act.TheVariants.{Local, Deliver, NextFrame, OpenStream, CutStream}
use Rattle.segment_world.specs.declared.act.Call.{Call}
use Rattle.segment_world.specs.declared.act.ActFault.{ActFault}
use Rattle.segment_world.specs.World.{World, ReportedEvent, fan_out, event_at_device, event_at_table, after_device_step, event_of_call, delivered, event_of_item, node_at, taken, taken_at, are_two, opened_if, cut_if, cut_at, happens}
use Rattle.segment_world.specs.Story.{Story, goes_on, reports, runs}
use Rattle.schedule_laws.specs.Ids.{ItemHolds, SideHolds, StreamHolds, StreamsHold}
use Rattle.schedule_laws.specs.Lemmas.Lists.{all_both, all_set, all_get}
use Rattle.cip_events.specs.Arrivals.{is_own}
use Rattle.segment_world.specs.Lemmas.CallLemmas.{call_is_own}

-- QUEUED FRAMES

changed_holds : (Q : List ℕ → Type 0) (change : Stream → Stream) → ((s : Stream) → StreamHolds Q s → StreamHolds Q (change s)) → (streams : List Stream) (n : ℕ) (found : Option Stream) → slice_get streams n ≡ found → StreamsHold Q streams → StreamsHold Q (changed change streams n found)
changed_holds Q change keeps streams n None is all = all
changed_holds Q change keeps streams n (Some s) is all =
    all_set (StreamHolds Q) streams n (change s) all (keeps s (all_get (StreamHolds Q) streams n s all is))

pub with_stream_holds : (Q : List ℕ → Type 0) (change : Stream → Stream) → ((s : Stream) → StreamHolds Q s → StreamHolds Q (change s)) → (n : ℕ) (streams : List Stream) → StreamsHold Q streams → StreamsHold Q (with_stream change n streams)
with_stream_holds Q change keeps n streams all = changed_holds Q change keeps streams n (slice_get streams n) refl all

first_taken : (Q : List ℕ → Type 0) (side : Side) (queue : List QueueItem) → side.queue ≡ queue → AllByRecursion (ItemHolds Q) queue → SideHolds Q (without_first side queue)
first_taken Q side [] is all = rw is tt
first_taken Q side (item ∷ rest) is all = all.1

taken_holds : (Q : List ℕ → Type 0) (d : Direction) (s : Stream) → StreamHolds Q s → StreamHolds Q (taken_from d s)
taken_holds Q Forth s all = record { forth = first_taken Q s.forth s.forth.queue refl all.forth; back = all.back }
taken_holds Q Back s all = record { forth = all.forth; back = first_taken Q s.back s.back.queue refl all.back }

pub ended_holds : (Q : List ℕ → Type 0) (side : Side) → SideHolds Q (ended_side side)
ended_holds Q side = mark_holds side.taken where
  mark_holds : (taken : Bool) → AllByRecursion (ItemHolds Q) (cond taken (Ending ∷ []) [])
  mark_holds true = (tt, tt)
  mark_holds false = tt

cut_holds : (Q : List ℕ → Type 0) (s : Stream) → StreamHolds Q s → StreamHolds Q (cut_stream s)
cut_holds Q s all = record { forth = ended_holds Q s.forth; back = ended_holds Q s.back }

side_holds : (Q : List ℕ → Type 0) (d : Direction) (s : Stream) → StreamHolds Q s → SideHolds Q (side_of d s)
side_holds Q Forth s all = all.forth
side_holds Q Back s all = all.back

-- ANSWERS

queued_holds : (Q : List ℕ → Type 0) (bytes : List ℕ) (side : Side) → Q bytes → SideHolds Q side → SideHolds Q (queued (Queued bytes) side)
queued_holds Q bytes side holds all = all_both (ItemHolds Q) side.queue (Queued bytes ∷ []) all (holds, tt)

sent_so_holds : (Q : List ℕ → Type 0) (bytes : List ℕ) (s : Stream) (way : Option Direction) → Q bytes → StreamHolds Q s → StreamHolds Q (sent_along bytes s way)
sent_so_holds Q bytes s None holds all = all
sent_so_holds Q bytes s (Some Forth) holds all = record { forth = queued_holds Q bytes s.forth holds all.forth; back = all.back }
sent_so_holds Q bytes s (Some Back) holds all = record { forth = all.forth; back = queued_holds Q bytes s.back holds all.back }

frame_sent_holds : (Q : List ℕ → Type 0) (device : ℕ) (streams : List Stream) (bytes : List ℕ) (to : Recipient) → Q bytes → StreamsHold Q streams → StreamsHold Q (frame_sent device streams bytes to)
frame_sent_holds Q device streams bytes (recipient.Stream n) holds all = with_stream_holds Q (sent_over device bytes) (λ s is. sent_so_holds Q bytes s (way_from device s) holds is) n streams all
frame_sent_holds Q device streams bytes (recipient.Peer node) holds all = all

abbrev pub BytesHold : (List ℕ → Type 0) → SentFrame → Type 0
BytesHold Q frame = Q frame.bytes

frames_sent_hold : (Q : List ℕ → Type 0) (device : ℕ) (streams : List Stream) (frames : List SentFrame) → AllByRecursion (BytesHold Q) frames → StreamsHold Q streams → StreamsHold Q (frames_sent device streams frames)
unfolding frames_sent
frames_sent_hold Q device streams [] holds all = all
frames_sent_hold Q device streams (frame ∷ frames) holds all =
    frames_sent_hold Q device (frame_sent device streams frame.bytes frame.to) frames holds.1 (frame_sent_holds Q device streams frame.bytes frame.to holds.0 all)

closed_so_holds : (Q : List ℕ → Type 0) (s : Stream) (way : Option Direction) → StreamHolds Q s → StreamHolds Q (closed_along s way)
closed_so_holds Q s None all = all
closed_so_holds Q s (Some Forth) all = record { forth = ended_holds Q s.forth; back = tt }
closed_so_holds Q s (Some Back) all = record { forth = tt; back = ended_holds Q s.back }

notice_holds : (Q : List ℕ → Type 0) (device : ℕ) (streams : List Stream) (reported : Notice) → StreamsHold Q streams → StreamsHold Q (notice_applied device streams reported)
notice_holds Q device streams (notice.StreamClosed n) all = with_stream_holds Q (closed_by device) (λ s is. closed_so_holds Q s (way_from device s) is) n streams all
notice_holds Q device streams (notice.Opened triad id) all = all
notice_holds Q device streams (notice.Closed triad) all = all
notice_holds Q device streams (notice.Expired triad) all = all
notice_holds Q device streams (notice.Dropped triad) all = all
notice_holds Q device streams (notice.Replaced triad) all = all
notice_holds Q device streams (notice.Slot slot state) all = all
notice_holds Q device streams (notice.Refused slot reason) all = all
notice_holds Q device streams (notice.NoIds slot) all = all
notice_holds Q device streams (notice.Reset kind) all = all
notice_holds Q device streams (notice.Unanswered number why) all = all

notices_hold : (Q : List ℕ → Type 0) (device : ℕ) (streams : List Stream) (notices : List Notice) → StreamsHold Q streams → StreamsHold Q (notices_applied device streams notices)
unfolding notices_applied
notices_hold Q device streams [] all = all
notices_hold Q device streams (reported ∷ notices) all = notices_hold Q device (notice_applied device streams reported) notices (notice_holds Q device streams reported all)

-- the property holds of the queued frames after an answer, if it holds of the answer's frames
pub answered_holds : (Q : List ℕ → Type 0) (device : ℕ) (answer : Answer) (streams : List Stream) → AllByRecursion (BytesHold Q) answer.frames → StreamsHold Q streams → StreamsHold Q (answered device answer streams)
answered_holds Q device answer streams frames all = notices_hold Q device (frames_sent device streams answer.frames) answer.notices (frames_sent_hold Q device streams answer.frames frames all)

-- AN ACT

-- an event in a world: a frame of which the property holds, and no `Request`, which comes without a stream
abbrev pub EventHolds : (List ℕ → Type 0) → Event → Type 0
EventHolds Q (Request peer bytes) = ⊥
EventHolds Q (Frame stream bytes) = Q bytes
EventHolds Q other = Unit {0}

-- an event of a device, which answers it; the streams are those without the received front
pub record Came (Q : List ℕ → Type 0) (w : World) (reported : ReportedEvent) (new : World) : Type 0 where
  pub streams : List Stream
  pub before : DeviceTable
  pub after : DeviceTable
  pub is : slice_get w.tables reported.device ≡ Some before
  pub stepped : step before reported.event ≡ Ok (reported.answer, after)
  pub leaves : new ≡ fan_out reported.device reported.answer (record w { tables = set w.tables reported.device after; streams = streams })
  pub queued : StreamsHold Q streams
  pub event : EventHolds Q reported.event

-- no event: only streams change
pub record Rests (Q : List ℕ → Type 0) (w : World) (new : World) : Type 0 where
  pub tables : new.tables ≡ w.tables
  pub sent : new.sent ≡ w.sent
  pub queued : StreamsHold Q new.streams

abbrev pub Moves : (List ℕ → Type 0) → World → Option ReportedEvent × World → Type 0
Moves Q w (None, new) = Rests Q w new
Moves Q w (Some reported, new) = Came Q w reported new

so_moves : (Q : List ℕ → Type 0) (w : World) (streams : List Stream) (device : ℕ) (event : Event) (t : DeviceTable) (said : Result DeviceNext StepFault) → slice_get w.tables device ≡ Some t → step t event ≡ said → StreamsHold Q streams → EventHolds Q event → IfOk (after_device_step device event (record w { streams = streams }) said) (Moves Q w)
so_moves Q w streams device event t (Err fault) at is queued holds = tt
so_moves Q w streams device event t (Ok next) at is queued holds =
    record { streams = streams; before = t; after = next.1; is = at; stepped = is; leaves = refl; queued = queued; event = holds }

to_moves : (Q : List ℕ → Type 0) (w : World) (streams : List Stream) (device : ℕ) (event : Event) (o : Option DeviceTable) → slice_get w.tables device ≡ o → StreamsHold Q streams → EventHolds Q event → IfOk (event_at_table device event (record w { streams = streams }) o) (Moves Q w)
to_moves Q w streams device event None at queued holds = tt
to_moves Q w streams device event (Some t) at queued holds = so_moves Q w streams device event t (step t event) at refl queued holds

comes_moves : (Q : List ℕ → Type 0) (w : World) (streams : List Stream) (device : ℕ) (event : Event) → StreamsHold Q streams → EventHolds Q event → IfOk (event_at_device device event (record w { streams = streams })) (Moves Q w)
comes_moves Q w streams device event queued holds = to_moves Q w streams device event (slice_get w.tables device) refl queued holds

own_holds : (Q : List ℕ → Type 0) (e : Event) → is_own e ≡ true → EventHolds Q e
own_holds Q (Request peer bytes) own = absurd (let e = own in cc)
own_holds Q (Frame stream bytes) own = absurd (let e = own in cc)
own_holds Q other own = tt

called_holds : (Q : List ℕ → Type 0) (c : Call) → EventHolds Q (event_of_call c)
called_holds Q c = own_holds Q (event_of_call c) (call_is_own c)

delivered_moves : (Q : List ℕ → Type 0) (device : ℕ) (w : World) (t : Option DeviceTable) (sent : Option Sent) → StreamsHold Q w.streams → IfOk (delivered device w t sent) (Moves Q w)
delivered_moves Q device w None sent queued = tt
delivered_moves Q device w (Some t) None queued = tt
delivered_moves Q device w (Some t) (Some sent) queued = comes_moves Q w w.streams device (Datagram sent.from sent.bytes) queued tt

item_holds : (Q : List ℕ → Type 0) (n : ℕ) (peer : Node) (item : QueueItem) → ItemHolds Q item → EventHolds Q (event_of_item n peer item)
item_holds Q n peer Opening holds = tt
item_holds Q n peer (Queued bytes) holds = holds
item_holds Q n peer Ending holds = tt

taken_moves : (Q : List ℕ → Type 0) (n : ℕ) (d : Direction) (w : World) (s : Stream) (queue : List QueueItem) → StreamsHold Q w.streams → AllByRecursion (ItemHolds Q) queue → IfOk (taken n d w s queue) (Moves Q w)
taken_moves Q n d w s [] queued all = tt
taken_moves Q n d w s (item ∷ rest) queued all =
    comes_moves Q w (with_stream (taken_from d) n w.streams) (receiver d s) (event_of_item n (node_at w (sender d s)) item)
    (with_stream_holds Q (taken_from d) (taken_holds Q d) n w.streams queued) (item_holds Q n (node_at w (sender d s)) item all.0)

taken_at_moves : (Q : List ℕ → Type 0) (n : ℕ) (d : Direction) (w : World) (o : Option Stream) → slice_get w.streams n ≡ o → StreamsHold Q w.streams → IfOk (taken_at n d w o) (Moves Q w)
taken_at_moves Q n d w None is queued = tt
taken_at_moves Q n d w (Some s) is queued =
    taken_moves Q n d w s (side_of d s).queue queued (side_holds Q d s (all_get (StreamHolds Q) w.streams n s queued is))

opened_moves : (Q : List ℕ → Type 0) (from to : ℕ) (w : World) (two numbered : Bool) → StreamsHold Q w.streams → IfOk (opened_if from to w two numbered) (Moves Q w)
opened_moves Q from to w false numbered queued = tt
opened_moves Q from to w true false queued = tt
opened_moves Q from to w true true queued =
    record { tables = refl; sent = refl; queued = all_both (StreamHolds Q) w.streams (fresh_stream from to ∷ []) queued (record { forth = (tt, tt); back = (tt, tt) }, tt) }

cut_moves : (Q : List ℕ → Type 0) (n : ℕ) (w : World) (ended : Bool) → StreamsHold Q w.streams → IfOk (cut_if n w ended) (Moves Q w)
cut_moves Q n w true queued = tt
cut_moves Q n w false queued = record { tables = refl; sent = refl; queued = with_stream_holds Q cut_stream (cut_holds Q) n w.streams queued }

cut_at_moves : (Q : List ℕ → Type 0) (n : ℕ) (w : World) (o : Option Stream) → StreamsHold Q w.streams → IfOk (cut_at n w o) (Moves Q w)
cut_at_moves Q n w None queued = tt
cut_at_moves Q n w (Some s) queued = cut_moves Q n w s.ended queued

pub act_moves : (Q : List ℕ → Type 0) (w : World) (act : Act) → StreamsHold Q w.streams → IfOk (happens w act) (Moves Q w)
act_moves Q w (Local device c) queued = comes_moves Q w w.streams device (event_of_call c) queued (called_holds Q c)
act_moves Q w (Deliver index device) queued = delivered_moves Q device w (slice_get w.tables device) (slice_get w.sent index) queued
act_moves Q w (NextFrame stream direction) queued = taken_at_moves Q stream direction w (slice_get w.streams stream) refl queued
act_moves Q w (OpenStream from to) queued = opened_moves Q from to w (are_two from to w) _ queued
act_moves Q w (CutStream stream) queued = cut_at_moves Q stream w (slice_get w.streams stream) queued

-- A SCHEDULE

-- a property of a story that each act keeps
abbrev pub ActsKeep : (Story → Type 0) → Type 0
ActsKeep I = (story : Story) (act : Act) → I story → IfOk (goes_on story.reported (happens story.world act)) I

reported_keeps : (I : Story → Type 0) → ActsKeep I → (so_far : Result Story ActFault) (act : Act) → IfOk so_far I → IfOk (reports so_far act) I
reported_keeps I keeps (Err fault) act holds = tt
reported_keeps I keeps (Ok story) act holds = keeps story act holds

pub runs_keep : (I : Story → Type 0) → ActsKeep I → (acts : List Act) (so_far : Result Story ActFault) → IfOk so_far I → IfOk (runs so_far acts) I
unfolding runs
runs_keep I keeps [] so_far holds = holds
runs_keep I keeps (act ∷ acts) so_far holds = runs_keep I keeps acts (reports so_far act) (reported_keeps I keeps so_far act holds)
