-- What one act does to streams, where it is known who gave what waits and who takes it: the ends of a stream stay, and a
-- frame comes to a device from the other end.
use Rattle.std.proofs.Common.{◌≡◌, ◌≢◌, inl, inr, ℕ, zero, suc, ◌==◌, ◌&&◌, not, nat_lt, Bool, true, false, cond, List, [], ◌∷◌, ◌++◌, map, set, slice_get, length, Option, Some, None, Result, Ok, Err, IfOk, refl, sym, ◌∙◌, ap, eqb-true}
use Rattle.std.specs.List.{AllByRecursion}
use Rattle.std.proofs.lemmas.Bool.{and_parts}
use Rattle.std.proofs.lemmas.Option.{same_Some}
use Rattle.base_lemmas.specs.Numbers.{not_same}
use Rattle.cip_events.specs.declared.event.Answer.{Answer}
use Rattle.cip_events.specs.declared.event.Event.{Event}
use Rattle.cip_events.specs.declared.event.Frame.{Frame as SentFrame}
use Rattle.cip_events.specs.declared.event.Notice.{Notice}
use Rattle.cip_events.specs.declared.event.Notice.TheVariants as notice
use Rattle.cip_events.specs.declared.event.Recipient.{Recipient}
use Rattle.cip_events.specs.declared.event.Recipient.TheVariants as recipient
use Rattle.cip_events.specs.declared.event.Event.TheVariants.{Request, StreamOpened, Frame, Datagram}
use Rattle.cip_events.specs.declared.event.StepFault.{StepFault}
use Rattle.cip_types.specs.declared.names.Node.{Node}
use Rattle.cip_tables.specs.declared.table.DeviceTable.{DeviceTable}
use Rattle.cip_tables.specs.Step.{DeviceNext, step}
use Rattle.segment_world.specs.Transit.Log.{Sent}
use Rattle.segment_world.specs.declared.transit.direction.Direction.{Direction}
use Rattle.segment_world.specs.declared.transit.direction.Direction.TheVariants.{Forth, Back}
use Rattle.segment_world.specs.Transit.Streams.{QueueItem, Opening, Queued, Ending, Side, Stream, side_of, receiver, sender, way_from, changed, with_stream, queued, sent_along, sent_over, frame_sent, frames_sent, ended_side, cut_stream, closed_along, closed_by, notice_applied, notices_applied, answered, without_first, taken_from, fresh_stream}
use Rattle.segment_world.specs.declared.act.Act.{Act}
use Rattle.segment_world.specs.declared.act.Act.TheVariants.{Local, Deliver, NextFrame, OpenStream, CutStream}
use Rattle.segment_world.specs.declared.act.Call.{Call}
use Rattle.segment_world.specs.World.{World, ReportedEvent, fan_out, event_at_device, event_at_table, after_device_step, event_of_call, delivered, event_of_item, node_at, taken, taken_at, are_two, opened_if, cut_if, cut_at, happens}
use Rattle.schedule_laws.specs.Lemmas.Lists.{all_both, all_more, all_set, all_get}
use Rattle.schedule_laws.specs.Streams.{Ends, ends_of, Waiting, ItemWaits, SideWaits, StreamWaits, StreamsWait, IsOver}
use Rattle.cip_events.specs.Arrivals.{is_own}
use Rattle.segment_world.specs.Lemmas.CallLemmas.{call_is_own}

-- ---- ends

pub set_ends : (streams : List Stream) (n : ℕ) (s new : Stream) → slice_get streams n ≡ Some s → ends_of new ≡ ends_of s → map ends_of (set streams n new) ≡ map ends_of streams
set_ends [] n s new at same = refl
set_ends (x ∷ streams) zero s new at same = ap (λ (e : Ends). e ∷ map ends_of streams) (same ∙ sym (ap ends_of (same_Some x s at)))
set_ends (x ∷ streams) (suc n) s new at same = ap (λ (es : List Ends). ends_of x ∷ es) (set_ends streams n s new at same)

pub get_ends : (streams : List Stream) (n : ℕ) (s : Stream) → slice_get streams n ≡ Some s → slice_get (map ends_of streams) n ≡ Some (ends_of s)
get_ends [] n s at = absurd (let e = at in cc)
get_ends (x ∷ streams) zero s at = ap (λ (y : Stream). Some (ends_of y)) (same_Some x s at)
get_ends (x ∷ streams) (suc n) s at = get_ends streams n s at

-- what was there is there, with its ends
pub record EndsStay (old new : List Stream) : Type 0 where
  pub there : (n : ℕ) (e : Ends) → slice_get (map ends_of old) n ≡ Some e → slice_get (map ends_of new) n ≡ Some e

pub same_ends : (old new : List Stream) → map ends_of new ≡ map ends_of old → EndsStay old new
same_ends old new same = record { there = λ n e at. ap (λ (es : List Ends). slice_get es n) same ∙ at }

more_at : {X : Type 0} (xs ys : List X) (n : ℕ) (x : X) → slice_get xs n ≡ Some x → slice_get (xs ++ ys) n ≡ Some x
more_at [] ys n x at = absurd (let e = at in cc)
more_at (z ∷ xs) ys zero x at = at
more_at (z ∷ xs) ys (suc n) x at = more_at xs ys n x at

more_ends : (streams : List Stream) (s : Stream) → EndsStay streams (streams ++ s ∷ [])
more_ends streams s = record { there = λ n e at. ap (λ (es : List Ends). slice_get es n) (map_last streams s) ∙ more_at (map ends_of streams) (ends_of s ∷ []) n e at } where
  map_last : (streams : List Stream) (s : Stream) → map ends_of (streams ++ s ∷ []) ≡ map ends_of streams ++ ends_of s ∷ []
  map_last [] s = refl
  map_last (x ∷ streams) s = ap (λ (es : List Ends). ends_of x ∷ es) (map_last streams s)

-- ---- one stream is another

-- a stream with the same ends, on which it holds of what waits
record Keeps (Q : Waiting) (s new : Stream) : Type 0 where
  ends : ends_of new ≡ ends_of s
  waits : StreamWaits Q new

record Still (Q : Waiting) (old new : List Stream) : Type 0 where
  ends : map ends_of new ≡ map ends_of old
  waits : StreamsWait Q new

changed_still : (Q : Waiting) (change : Stream → Stream) (streams : List Stream) (n : ℕ) (found : Option Stream) → ((s : Stream) → slice_get streams n ≡ Some s → StreamWaits Q s → Keeps Q s (change s)) → slice_get streams n ≡ found → StreamsWait Q streams → Still Q streams (changed change streams n found)
changed_still Q change streams n None keeps is all = record { ends = refl; waits = all }
changed_still Q change streams n (Some s) keeps is all =
    let kept = keeps s is (all_get (StreamWaits Q) streams n s all is) in
    record { ends = set_ends streams n s (change s) is kept.ends; waits = all_set (StreamWaits Q) streams n (change s) all kept.waits }

with_still : (Q : Waiting) (change : Stream → Stream) (n : ℕ) (streams : List Stream) → ((s : Stream) → slice_get streams n ≡ Some s → StreamWaits Q s → Keeps Q s (change s)) → StreamsWait Q streams → Still Q streams (with_stream change n streams)
with_still Q change n streams keeps all = changed_still Q change streams n (slice_get streams n) keeps refl all

-- ---- what is taken, cut and closed

first_taken : (Q : Waiting) (from to : ℕ) (side : Side) (queue : List QueueItem) → side.queue ≡ queue → AllByRecursion (ItemWaits Q from to) queue → SideWaits Q from to (without_first side queue)
first_taken Q from to side [] is all = rw is tt
first_taken Q from to side (item ∷ rest) is all = all.1

taken_keeps : (Q : Waiting) (d : Direction) (s : Stream) → StreamWaits Q s → Keeps Q s (taken_from d s)
taken_keeps Q Forth s all = record { ends = refl; waits = record { apart = all.apart; forth = first_taken Q s.from s.to s.forth s.forth.queue refl all.forth; back = all.back } }
taken_keeps Q Back s all = record { ends = refl; waits = record { apart = all.apart; forth = all.forth; back = first_taken Q s.to s.from s.back s.back.queue refl all.back } }

ended_waits : (Q : Waiting) (from to : ℕ) (side : Side) → SideWaits Q from to (ended_side side)
ended_waits Q from to side = mark side.taken where
  mark : (taken : Bool) → AllByRecursion (ItemWaits Q from to) (cond taken (Ending ∷ []) [])
  mark true = (tt, tt)
  mark false = tt

cut_keeps : (Q : Waiting) (s : Stream) → StreamWaits Q s → Keeps Q s (cut_stream s)
cut_keeps Q s all = record { ends = refl; waits = record { apart = all.apart; forth = ended_waits Q s.from s.to s.forth; back = ended_waits Q s.to s.from s.back } }

closed_keeps : (Q : Waiting) (s : Stream) (way : Option Direction) → StreamWaits Q s → Keeps Q s (closed_along s way)
closed_keeps Q s None all = record { ends = refl; waits = all }
closed_keeps Q s (Some Forth) all = record { ends = refl; waits = record { apart = all.apart; forth = ended_waits Q s.from s.to s.forth; back = tt } }
closed_keeps Q s (Some Back) all = record { ends = refl; waits = record { apart = all.apart; forth = tt; back = ended_waits Q s.to s.from s.back } }

-- ---- what a device sends

-- it holds of a frame that the device sends over a stream between these two, whichever end it is
pub record SentOver (Q : Waiting) (device : ℕ) (e : Ends) (bytes : List ℕ) : Type 0 where
  pub forth : e.from ≡ device → Q e.from e.to bytes
  pub back : e.to ≡ device → Q e.to e.from bytes

-- so it holds of a frame, over whatever stream it goes
abbrev pub FrameSent : Waiting → List Ends → ℕ → SentFrame → Type 0
FrameSent Q ends device frame = (n : ℕ) (e : Ends) → frame.to ≡ recipient.Stream n → slice_get ends n ≡ Some e → SentOver Q device e frame.bytes

queued_waits : (Q : Waiting) (from to : ℕ) (bytes : List ℕ) (side : Side) → Q from to bytes → SideWaits Q from to side → SideWaits Q from to (queued (Queued bytes) side)
queued_waits Q from to bytes side holds all = all_both (ItemWaits Q from to) side.queue (Queued bytes ∷ []) all (holds, tt)

sent_keeps : (Q : Waiting) (device : ℕ) (bytes : List ℕ) (s : Stream) → SentOver Q device (ends_of s) bytes → StreamWaits Q s → Keeps Q s (sent_over device bytes s)
sent_keeps Q device bytes s goes all = way s.ended (s.from == device) (s.to == device) refl refl where
  way : (ended a b : Bool) → (s.from == device) ≡ a → (s.to == device) ≡ b → Keeps Q s (sent_along bytes s (cond ended None (cond a (Some Forth) (cond b (Some Back) None))))
  way true a b one other = record { ends = refl; waits = all }
  way false true b one other = record { ends = refl; waits = record { apart = all.apart; forth = queued_waits Q s.from s.to bytes s.forth (goes.forth (eqb-true s.from device one)) all.forth; back = all.back } }
  way false false true one other = record { ends = refl; waits = record { apart = all.apart; forth = all.forth; back = queued_waits Q s.to s.from bytes s.back (goes.back (eqb-true s.to device other)) all.back } }
  way false false false one other = record { ends = refl; waits = all }

frame_still : (Q : Waiting) (ends : List Ends) (device : ℕ) (streams : List Stream) (bytes : List ℕ) (to : Recipient) → ((n : ℕ) (e : Ends) → to ≡ recipient.Stream n → slice_get ends n ≡ Some e → SentOver Q device e bytes) → map ends_of streams ≡ ends → StreamsWait Q streams → Still Q streams (frame_sent device streams bytes to)
frame_still Q ends device streams bytes (recipient.Stream n) goes same all =
    with_still Q (sent_over device bytes) n streams (λ s at waits. sent_keeps Q device bytes s (goes n (ends_of s) refl (ap (λ (es : List Ends). slice_get es n) (sym same) ∙ get_ends streams n s at)) waits) all
frame_still Q ends device streams bytes (recipient.Peer node) goes same all = record { ends = refl; waits = all }

frames_still : (Q : Waiting) (ends : List Ends) (device : ℕ) (streams : List Stream) (frames : List SentFrame) → AllByRecursion (FrameSent Q ends device) frames → map ends_of streams ≡ ends → StreamsWait Q streams → Still Q streams (frames_sent device streams frames)
unfolding frames_sent
frames_still Q ends device streams [] goes same all = record { ends = refl; waits = all }
frames_still Q ends device streams (frame ∷ frames) goes same all =
    let first = frame_still Q ends device streams frame.bytes frame.to goes.0 same all in
    let rest = frames_still Q ends device (frame_sent device streams frame.bytes frame.to) frames goes.1 (first.ends ∙ same) first.waits in
    record { ends = rest.ends ∙ first.ends; waits = rest.waits }

notice_still : (Q : Waiting) (device : ℕ) (streams : List Stream) (notice : Notice) → StreamsWait Q streams → Still Q streams (notice_applied device streams notice)
notice_still Q device streams (notice.StreamClosed n) all = with_still Q (closed_by device) n streams (λ s at waits. closed_keeps Q s (way_from device s) waits) all
notice_still Q device streams (notice.Opened triad id) all = record { ends = refl; waits = all }
notice_still Q device streams (notice.Closed triad) all = record { ends = refl; waits = all }
notice_still Q device streams (notice.Expired triad) all = record { ends = refl; waits = all }
notice_still Q device streams (notice.Dropped triad) all = record { ends = refl; waits = all }
notice_still Q device streams (notice.Replaced triad) all = record { ends = refl; waits = all }
notice_still Q device streams (notice.Slot slot state) all = record { ends = refl; waits = all }
notice_still Q device streams (notice.Refused slot reason) all = record { ends = refl; waits = all }
notice_still Q device streams (notice.NoIds slot) all = record { ends = refl; waits = all }
notice_still Q device streams (notice.Reset kind) all = record { ends = refl; waits = all }
notice_still Q device streams (notice.Unanswered number why) all = record { ends = refl; waits = all }

notices_still : (Q : Waiting) (device : ℕ) (streams : List Stream) (notices : List Notice) → StreamsWait Q streams → Still Q streams (notices_applied device streams notices)
unfolding notices_applied
notices_still Q device streams [] all = record { ends = refl; waits = all }
notices_still Q device streams (one ∷ notices) all =
    let first = notice_still Q device streams one all in
    let rest = notices_still Q device (notice_applied device streams one) notices first.waits in
    record { ends = rest.ends ∙ first.ends; waits = rest.waits }

-- what waits after an answer
pub record AfterAnswer (Q : Waiting) (old new : List Stream) : Type 0 where
  pub ends : map ends_of new ≡ map ends_of old
  pub waits : StreamsWait Q new

pub answered_waits : (Q : Waiting) (device : ℕ) (answer : Answer) (streams : List Stream) → AllByRecursion (FrameSent Q (map ends_of streams) device) answer.frames → StreamsWait Q streams → AfterAnswer Q streams (answered device answer streams)
answered_waits Q device answer streams goes all =
    let first = frames_still Q (map ends_of streams) device streams answer.frames goes refl all in
    let rest = notices_still Q device (frames_sent device streams answer.frames) answer.notices first.waits in
    record { ends = rest.ends ∙ first.ends; waits = rest.waits }

-- ---- an act

-- a frame that came over a stream, from the device at its other end
pub record FrameArrives (Q : Waiting) (w : World) (device n : ℕ) (bytes : List ℕ) : Type 0 where
  pub other : ℕ
  pub over : IsOver w device other n
  pub holds : Q other device bytes

-- the mark that a stream opens names the node of its other end
pub record OpeningArrives (w : World) (device n : ℕ) (peer : Node) : Type 0 where
  pub other : ℕ
  pub over : IsOver w device other n
  pub peer_is : peer ≡ node_at w other

abbrev pub EventArrives : Waiting → World → ℕ → Event → Type 0
EventArrives Q w device (Request peer bytes) = ⊥
EventArrives Q w device (StreamOpened stream peer) = OpeningArrives w device stream peer
EventArrives Q w device (Frame stream bytes) = FrameArrives Q w device stream bytes
EventArrives Q w device other = Unit {0}

-- an event of a device, which answers it; the streams are those that the event leaves as it is taken
pub record OneEvent (Q : Waiting) (w : World) (reported : ReportedEvent) (new : World) : Type 0 where
  pub streams : List Stream
  pub before : DeviceTable
  pub after : DeviceTable
  pub is : slice_get w.tables reported.device ≡ Some before
  pub stepped : step before reported.event ≡ Ok (reported.answer, after)
  pub leaves : new ≡ fan_out reported.device reported.answer (record w { tables = set w.tables reported.device after; streams = streams })
  pub ends : map ends_of streams ≡ map ends_of w.streams
  pub waits : StreamsWait Q streams
  pub event : EventArrives Q w reported.device reported.event

-- no event: streams alone are others
pub record StreamsOnly (Q : Waiting) (w : World) (new : World) : Type 0 where
  pub nodes : new.nodes ≡ w.nodes
  pub tables : new.tables ≡ w.tables
  pub ends : EndsStay w.streams new.streams
  pub waits : StreamsWait Q new.streams

abbrev pub ActCases : Waiting → World → Option ReportedEvent × World → Type 0
ActCases Q w (None, new) = StreamsOnly Q w new
ActCases Q w (Some reported, new) = OneEvent Q w reported new

so_acts : (Q : Waiting) (w : World) (streams : List Stream) (device : ℕ) (event : Event) (t : DeviceTable) (said : Result DeviceNext StepFault) → slice_get w.tables device ≡ Some t → step t event ≡ said → Still Q w.streams streams → EventArrives Q w device event → IfOk (after_device_step device event (record w { streams = streams }) said) (ActCases Q w)
so_acts Q w streams device event t (Err fault) at is still holds = tt
so_acts Q w streams device event t (Ok next) at is still holds =
    record { streams = streams; before = t; after = next.1; is = at; stepped = is; leaves = refl; ends = still.ends; waits = still.waits; event = holds }

to_acts : (Q : Waiting) (w : World) (streams : List Stream) (device : ℕ) (event : Event) (o : Option DeviceTable) → slice_get w.tables device ≡ o → Still Q w.streams streams → EventArrives Q w device event → IfOk (event_at_table device event (record w { streams = streams }) o) (ActCases Q w)
to_acts Q w streams device event None at still holds = tt
to_acts Q w streams device event (Some t) at still holds = so_acts Q w streams device event t (step t event) at refl still holds

comes_acts : (Q : Waiting) (w : World) (streams : List Stream) (device : ℕ) (event : Event) → Still Q w.streams streams → EventArrives Q w device event → IfOk (event_at_device device event (record w { streams = streams })) (ActCases Q w)
comes_acts Q w streams device event still holds = to_acts Q w streams device event (slice_get w.tables device) refl still holds

still_all : (Q : Waiting) (streams : List Stream) → StreamsWait Q streams → Still Q streams streams
still_all Q streams all = record { ends = refl; waits = all }

own_comes : (Q : Waiting) (w : World) (device : ℕ) (e : Event) → is_own e ≡ true → EventArrives Q w device e
own_comes Q w device (Request peer bytes) own = absurd (let e = own in cc)
own_comes Q w device (StreamOpened stream peer) own = absurd (let e = own in cc)
own_comes Q w device (Frame stream bytes) own = absurd (let e = own in cc)
own_comes Q w device other own = tt

called_comes : (Q : Waiting) (w : World) (device : ℕ) (c : Call) → EventArrives Q w device (event_of_call c)
called_comes Q w device c = own_comes Q w device (event_of_call c) (call_is_own c)

delivered_acts : (Q : Waiting) (device : ℕ) (w : World) (t : Option DeviceTable) (sent : Option Sent) → StreamsWait Q w.streams → IfOk (delivered device w t sent) (ActCases Q w)
delivered_acts Q device w None sent all = tt
delivered_acts Q device w (Some t) None all = tt
delivered_acts Q device w (Some t) (Some sent) all = comes_acts Q w w.streams device (Datagram sent.from sent.bytes) (still_all Q w.streams all) tt

item_comes : (Q : Waiting) (w : World) (n device other : ℕ) (item : QueueItem) → IsOver w device other n → ItemWaits Q other device item → EventArrives Q w device (event_of_item n (node_at w other) item)
item_comes Q w n device other Opening over holds = record { other = other; over = over; peer_is = refl }
item_comes Q w n device other (Queued bytes) over holds = record { other = other; over = over; holds = holds }
item_comes Q w n device other Ending over holds = tt

over_stream : (w : World) (n : ℕ) (d : Direction) (s : Stream) → slice_get w.streams n ≡ Some s → s.from ≢ s.to → IsOver w (receiver d s) (sender d s) n
over_stream w n Forth s at apart = record { ends = ends_of s; there = get_ends w.streams n s at; apart = apart; between = inr (record { first = refl; second = refl }) }
over_stream w n Back s at apart = record { ends = ends_of s; there = get_ends w.streams n s at; apart = apart; between = inl (record { first = refl; second = refl }) }

side_waits : (Q : Waiting) (d : Direction) (s : Stream) → StreamWaits Q s → SideWaits Q (sender d s) (receiver d s) (side_of d s)
side_waits Q Forth s all = all.forth
side_waits Q Back s all = all.back

taken_acts : (Q : Waiting) (n : ℕ) (d : Direction) (w : World) (s : Stream) (queue : List QueueItem) → slice_get w.streams n ≡ Some s → s.from ≢ s.to → StreamsWait Q w.streams → AllByRecursion (ItemWaits Q (sender d s) (receiver d s)) queue → IfOk (taken n d w s queue) (ActCases Q w)
taken_acts Q n d w s [] at apart all queue = tt
taken_acts Q n d w s (item ∷ rest) at apart all queue =
    comes_acts Q w (with_stream (taken_from d) n w.streams) (receiver d s) (event_of_item n (node_at w (sender d s)) item)
    (with_still Q (taken_from d) n w.streams (λ x there waits. taken_keeps Q d x waits) all) (item_comes Q w n (receiver d s) (sender d s) item (over_stream w n d s at apart) queue.0)

taken_at_acts : (Q : Waiting) (n : ℕ) (d : Direction) (w : World) (o : Option Stream) → slice_get w.streams n ≡ o → StreamsWait Q w.streams → IfOk (taken_at n d w o) (ActCases Q w)
taken_at_acts Q n d w None is all = tt
taken_at_acts Q n d w (Some s) is all =
    let waits = all_get (StreamWaits Q) w.streams n s all is in
    taken_acts Q n d w s (side_of d s).queue is waits.apart all (side_waits Q d s waits)

opened_acts : (Q : Waiting) (from to : ℕ) (w : World) (two numbered : Bool) → are_two from to w ≡ two → StreamsWait Q w.streams → IfOk (opened_if from to w two numbered) (ActCases Q w)
opened_acts Q from to w false numbered is all = tt
opened_acts Q from to w true false is all = tt
opened_acts Q from to w true true is all =
    let differ : from ≢ to = not_same from to (and_parts (nat_lt from (length w.tables) && nat_lt to (length w.tables)) (not (from == to)) is).1 in
    record {
      nodes = refl;
      tables = refl;
      ends = more_ends w.streams (fresh_stream from to);
      waits = all_both (StreamWaits Q) w.streams (fresh_stream from to ∷ []) all (record { apart = differ; forth = (tt, tt); back = (tt, tt) }, tt);
    }

cut_acts : (Q : Waiting) (n : ℕ) (w : World) (ended : Bool) → StreamsWait Q w.streams → IfOk (cut_if n w ended) (ActCases Q w)
cut_acts Q n w true all = tt
cut_acts Q n w false all =
    let still = with_still Q cut_stream n w.streams (λ s at waits. cut_keeps Q s waits) all in
    record { nodes = refl; tables = refl; ends = same_ends w.streams (with_stream cut_stream n w.streams) still.ends; waits = still.waits }

cut_at_acts : (Q : Waiting) (n : ℕ) (w : World) (o : Option Stream) → StreamsWait Q w.streams → IfOk (cut_at n w o) (ActCases Q w)
cut_at_acts Q n w None all = tt
cut_at_acts Q n w (Some s) all = cut_acts Q n w s.ended all

pub act_acts : (Q : Waiting) (w : World) (act : Act) → StreamsWait Q w.streams → IfOk (happens w act) (ActCases Q w)
act_acts Q w (Local device c) all = comes_acts Q w w.streams device (event_of_call c) (still_all Q w.streams all) (called_comes Q w device c)
act_acts Q w (Deliver index device) all = delivered_acts Q device w (slice_get w.tables device) (slice_get w.sent index) all
act_acts Q w (NextFrame stream direction) all = taken_at_acts Q stream direction w (slice_get w.streams stream) refl all
act_acts Q w (OpenStream from to) all = opened_acts Q from to w (are_two from to w) _ refl all
act_acts Q w (CutStream stream) all = cut_at_acts Q stream w (slice_get w.streams stream) all

-- ---- what holds of more

item_more : (Q R : Waiting) → ((sender receiver : ℕ) (bytes : List ℕ) → Q sender receiver bytes → R sender receiver bytes) → (sender receiver : ℕ) (item : QueueItem) → ItemWaits Q sender receiver item → ItemWaits R sender receiver item
item_more Q R more sender receiver Opening holds = tt
item_more Q R more sender receiver (Queued bytes) holds = more sender receiver bytes holds
item_more Q R more sender receiver Ending holds = tt

pub streams_more : (Q R : Waiting) → ((sender receiver : ℕ) (bytes : List ℕ) → Q sender receiver bytes → R sender receiver bytes) → (streams : List Stream) → StreamsWait Q streams → StreamsWait R streams
streams_more Q R more streams all =
    all_more (StreamWaits Q) (StreamWaits R)
    (λ s waits. record {
      apart = waits.apart;
      forth = all_more (ItemWaits Q s.from s.to) (ItemWaits R s.from s.to) (item_more Q R more s.from s.to) s.forth.queue waits.forth;
      back = all_more (ItemWaits Q s.to s.from) (ItemWaits R s.to s.from) (item_more Q R more s.to s.from) s.back.queue waits.back;
    }) streams all
