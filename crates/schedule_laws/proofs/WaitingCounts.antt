-- How many of the frames that wait on streams pass a test: what one act adds, and what it takes.
use Rattle.std.proofs.Common.{◌≡◌, ◌≤◌, ℕ, zero, suc, ◌+◌, Bool, true, false, cond, List, [], ◌∷◌, ◌++◌, set, slice_get, Option, Some, None, Result, Ok, Err, IfOk, refl, ap, arith}
use Rattle.std.specs.List.{count_by}
use Rattle.std.proofs.lemmas.List.Sums.{sum_by-append, sum_by-cons}
use Rattle.std.proofs.lemmas.Option.{same_Some}
use Rattle.base_lemmas.specs.Lists.{count_cons, count_both}
use Rattle.cip_events.specs.declared.event.Answer.{Answer}
use Rattle.cip_events.specs.declared.event.Event.{Event}
use Rattle.cip_events.specs.declared.event.Event.TheVariants.{Request, Frame, Datagram}
use Rattle.cip_events.specs.declared.event.Frame.{Frame as SentFrame}
use Rattle.cip_events.specs.declared.event.Notice.{Notice}
use Rattle.cip_events.specs.declared.event.Notice.TheVariants as notice
use Rattle.cip_events.specs.declared.event.Recipient.{Recipient}
use Rattle.cip_events.specs.declared.event.Recipient.TheVariants as recipient
use Rattle.cip_events.specs.declared.event.StepFault.{StepFault}
use Rattle.cip_types.specs.declared.names.Node.{Node}
use Rattle.cip_tables.specs.declared.table.DeviceTable.{DeviceTable}
use Rattle.cip_tables.specs.Step.{DeviceNext, step}
use Rattle.segment_world.specs.Transit.Log.{Sent}
use Rattle.segment_world.specs.declared.transit.direction.Direction.{Direction}
use Rattle.segment_world.specs.declared.transit.direction.Direction.TheVariants.{Forth, Back}
use Rattle.segment_world.specs.Transit.Streams.{QueueItem, Opening, Queued, Ending, Side, Stream, side_of, receiver, sender, way_from, changed, with_stream, queued, sent_along, sent_over, frame_sent, frames_sent, ended_side, cut_stream, closed_along, closed_by, notice_applied, notices_applied, answered, without_first, taken_from, fresh_stream}
use Rattle.segment_world.specs.declared.act.Act.{Act}
use Rattle.segment_world.specs.declared.act.Act.TheVariants.{Local, Deliver, NextFrame, OpenStream, CutStream}
use Rattle.segment_world.specs.declared.act.Call.{Call}
use Rattle.segment_world.specs.World.{World, ReportedEvent, event_at_device, event_at_table, after_device_step, event_of_call, delivered, event_of_item, node_at, taken, taken_at, are_two, opened_if, cut_if, cut_at, happens}
use Rattle.schedule_laws.specs.MadeOnce.{item_passes, side_count, stream_count, waiting_count}
use Rattle.cip_events.specs.Arrivals.{is_own}
use Rattle.segment_world.specs.Lemmas.CallLemmas.{call_is_own}

abbrev pub Test : Type 0
Test = List ℕ → Bool

-- ---- lists

waiting_cons : (p : Test) (s : Stream) (streams : List Stream) → waiting_count p (s ∷ streams) ≡ stream_count p s + waiting_count p streams
unfolding waiting_count
waiting_cons p s streams = sum_by-cons (stream_count p) s streams

waiting_both : (p : Test) (xs ys : List Stream) → waiting_count p (xs ++ ys) ≡ waiting_count p xs + waiting_count p ys
unfolding waiting_count
waiting_both p xs ys = sum_by-append (stream_count p) xs ys

pub none_waits : (p : Test) → waiting_count p [] ≡ 0
unfolding waiting_count
none_waits p = refl

-- where one stream is another, the count differs by what the two hold
waiting_set : (p : Test) (streams : List Stream) (n : ℕ) (s new : Stream) → slice_get streams n ≡ Some s → waiting_count p (set streams n new) + stream_count p s ≡ waiting_count p streams + stream_count p new
waiting_set p [] n s new at = absurd (let e = at in cc)
waiting_set p (x ∷ streams) zero s new at =
    let same : stream_count p x ≡ stream_count p s = ap (stream_count p) (same_Some x s at) in
    let a = waiting_cons p x streams in
    let b = waiting_cons p new streams in
    omega (arith, same, a, b)
waiting_set p (x ∷ streams) (suc n) s new at =
    let rest = waiting_set p streams n s new at in
    let a = waiting_cons p x streams in
    let b = waiting_cons p x (set streams n new) in
    omega (arith, rest, a, b)

-- ---- one stream is another

-- what waits after a change is at most what waited before, with what was added
with_more : (p : Test) (added : ℕ) (change : Stream → Stream) (n : ℕ) (streams : List Stream) (found : Option Stream) → slice_get streams n ≡ found → ((s : Stream) → stream_count p (change s) ≤ stream_count p s + added) → waiting_count p (changed change streams n found) ≤ waiting_count p streams + added
with_more p added change n streams None is more = omega arith
with_more p added change n streams (Some s) is more =
    let one = more s in
    let both = waiting_set p streams n s (change s) is in
    omega (arith, one, both)

ended_count : (p : Test) (side : Side) → side_count p (ended_side side) ≤ side_count p side
ended_count p side = mark side.taken where
  mark : (taken : Bool) → count_by (item_passes p) (cond taken (Ending ∷ []) []) ≤ side_count p side
  mark true = omega arith
  mark false = omega arith

cut_count : (p : Test) (s : Stream) → stream_count p (cut_stream s) ≤ stream_count p s + 0
cut_count p s = let a = ended_count p s.forth in let b = ended_count p s.back in omega (arith, a, b)

closed_count : (p : Test) (s : Stream) (way : Option Direction) → stream_count p (closed_along s way) ≤ stream_count p s + 0
closed_count p s None = omega arith
closed_count p s (Some Forth) = let a = ended_count p s.forth in omega (arith, a)
closed_count p s (Some Back) = let b = ended_count p s.back in omega (arith, b)

-- ---- what a device sends

queued_count : (p : Test) (bytes : List ℕ) (side : Side) → side_count p (queued (Queued bytes) side) ≡ side_count p side + cond (p bytes) 1 0
queued_count p bytes side = let both = count_both (item_passes p) side.queue (Queued bytes ∷ []) in omega (arith, both)

sent_count : (p : Test) (bytes : List ℕ) (s : Stream) (way : Option Direction) → stream_count p (sent_along bytes s way) ≤ stream_count p s + cond (p bytes) 1 0
sent_count p bytes s None = omega arith
sent_count p bytes s (Some Forth) = let one = queued_count p bytes s.forth in omega (arith, one)
sent_count p bytes s (Some Back) = let one = queued_count p bytes s.back in omega (arith, one)

frame_count : (p : Test) (device : ℕ) (streams : List Stream) (bytes : List ℕ) (to : Recipient) → waiting_count p (frame_sent device streams bytes to) ≤ waiting_count p streams + cond (p bytes) 1 0
frame_count p device streams bytes (recipient.Stream n) =
    with_more p (cond (p bytes) 1 0) (sent_over device bytes) n streams (slice_get streams n) refl (λ s. sent_count p bytes s (way_from device s))
frame_count p device streams bytes (recipient.Peer node) = omega arith

-- the frame passes the test
abbrev pub passes : Test → SentFrame → Bool
passes p frame = p frame.bytes

frames_count : (p : Test) (device : ℕ) (streams : List Stream) (frames : List SentFrame) → waiting_count p (frames_sent device streams frames) ≤ waiting_count p streams + count_by (passes p) frames
unfolding frames_sent
frames_count p device streams [] = omega arith
frames_count p device streams (frame ∷ frames) =
    let first = frame_count p device streams frame.bytes frame.to in
    let rest = frames_count p device (frame_sent device streams frame.bytes frame.to) frames in
    let both = count_cons (passes p) frame frames in
    omega (arith, first, rest, both)

notice_count : (p : Test) (device : ℕ) (streams : List Stream) (one : Notice) → waiting_count p (notice_applied device streams one) ≤ waiting_count p streams + 0
notice_count p device streams (notice.StreamClosed n) = with_more p 0 (closed_by device) n streams (slice_get streams n) refl (λ s. closed_count p s (way_from device s))
notice_count p device streams (notice.Opened triad id) = omega arith
notice_count p device streams (notice.Closed triad) = omega arith
notice_count p device streams (notice.Expired triad) = omega arith
notice_count p device streams (notice.Dropped triad) = omega arith
notice_count p device streams (notice.Replaced triad) = omega arith
notice_count p device streams (notice.Slot slot state) = omega arith
notice_count p device streams (notice.Refused slot reason) = omega arith
notice_count p device streams (notice.NoIds slot) = omega arith
notice_count p device streams (notice.Reset kind) = omega arith
notice_count p device streams (notice.Unanswered number why) = omega arith

notices_count : (p : Test) (device : ℕ) (streams : List Stream) (notices : List Notice) → waiting_count p (notices_applied device streams notices) ≤ waiting_count p streams
unfolding notices_applied
notices_count p device streams [] = omega arith
notices_count p device streams (one ∷ notices) =
    let first = notice_count p device streams one in
    let rest = notices_count p device (notice_applied device streams one) notices in
    omega (arith, first, rest)

answered_count : (p : Test) (device : ℕ) (answer : Answer) (streams : List Stream) → waiting_count p (answered device answer streams) ≤ waiting_count p streams + count_by (passes p) answer.frames
answered_count p device answer streams =
    let first = frames_count p device streams answer.frames in
    let rest = notices_count p device (frames_sent device streams answer.frames) answer.notices in
    omega (arith, first, rest)

-- ---- an act

-- 1 where the event is a frame that passes the test
abbrev pub event_count : Test → Event → ℕ
event_count p (Frame stream bytes) = cond (p bytes) 1 0
event_count p other = 0

-- requests without a stream do not come in a schedule
abbrev pub IsInSchedule : Event → Type 0
IsInSchedule (Request peer bytes) = ⊥
IsInSchedule other = Unit {0}

-- An event of a device, which answers it. Of the frames that pass the test, those that wait afterwards, and the one that the
-- event is, waited before or are of the answer.
pub record EventCounts (p : Test) (w : World) (reported : ReportedEvent) (new : World) : Type 0 where
  pub before : DeviceTable
  pub after : DeviceTable
  pub is : slice_get w.tables reported.device ≡ Some before
  pub stepped : step before reported.event ≡ Ok (reported.answer, after)
  pub tables : new.tables ≡ set w.tables reported.device after
  pub possible : IsInSchedule reported.event
  pub count : waiting_count p new.streams + event_count p reported.event ≤ waiting_count p w.streams + count_by (passes p) reported.answer.frames

pub record RestCounts (p : Test) (w new : World) : Type 0 where
  pub tables : new.tables ≡ w.tables
  pub count : waiting_count p new.streams ≤ waiting_count p w.streams

abbrev pub ActCounts : Test → World → Option ReportedEvent × World → Type 0
ActCounts p w (None, new) = RestCounts p w new
ActCounts p w (Some reported, new) = EventCounts p w reported new

so_counts : (p : Test) (w : World) (streams : List Stream) (device : ℕ) (event : Event) (t : DeviceTable) (said : Result DeviceNext StepFault) → slice_get w.tables device ≡ Some t → step t event ≡ said → IsInSchedule event → waiting_count p streams + event_count p event ≤ waiting_count p w.streams → IfOk (after_device_step device event (record w { streams = streams }) said) (ActCounts p w)
so_counts p w streams device event t (Err why) at is possible count = tt
so_counts p w streams device event t (Ok next) at is possible count =
    let sent = answered_count p device next.0 streams in
    record { before = t; after = next.1; is = at; stepped = is; tables = refl; possible = possible; count = omega (arith, sent, count) }

to_counts : (p : Test) (w : World) (streams : List Stream) (device : ℕ) (event : Event) (o : Option DeviceTable) → slice_get w.tables device ≡ o → IsInSchedule event → waiting_count p streams + event_count p event ≤ waiting_count p w.streams → IfOk (event_at_table device event (record w { streams = streams }) o) (ActCounts p w)
to_counts p w streams device event None at possible count = tt
to_counts p w streams device event (Some t) at possible count = so_counts p w streams device event t (step t event) at refl possible count

comes_counts : (p : Test) (w : World) (streams : List Stream) (device : ℕ) (event : Event) → IsInSchedule event → waiting_count p streams + event_count p event ≤ waiting_count p w.streams → IfOk (event_at_device device event (record w { streams = streams })) (ActCounts p w)
comes_counts p w streams device event possible count = to_counts p w streams device event (slice_get w.tables device) refl possible count

own_counts : (p : Test) (w : World) (device : ℕ) (e : Event) → is_own e ≡ true → IfOk (event_at_device device e w) (ActCounts p w)
own_counts p w device (Request peer bytes) own = absurd (let e = own in cc)
own_counts p w device (Frame stream bytes) own = absurd (let e = own in cc)
own_counts p w device other own = comes_counts p w w.streams device other tt (omega arith)

local_counts : (p : Test) (w : World) (device : ℕ) (c : Call) → IfOk (event_at_device device (event_of_call c) w) (ActCounts p w)
local_counts p w device c = own_counts p w device (event_of_call c) (call_is_own c)

delivered_counts : (p : Test) (device : ℕ) (w : World) (t : Option DeviceTable) (sent : Option Sent) → IfOk (delivered device w t sent) (ActCounts p w)
delivered_counts p device w None sent = tt
delivered_counts p device w (Some t) None = tt
delivered_counts p device w (Some t) (Some sent) = comes_counts p w w.streams device (Datagram sent.from sent.bytes) tt (omega arith)

-- the front is taken from the queue
first_is : (a b : QueueItem) (xs ys : List QueueItem) → a ∷ xs ≡ b ∷ ys → a ≡ b
first_is a b xs ys e = cc

first_count : (p : Test) (side : Side) (queue : List QueueItem) (item : QueueItem) (rest : List QueueItem) → queue ≡ item ∷ rest → side_count p (without_first side queue) + cond (item_passes p item) 1 0 ≡ count_by (item_passes p) queue
first_count p side [] item rest is = absurd (let e = is in cc)
first_count p side (first ∷ queue) item rest is =
    let same : ◌≡◌ {A = ℕ} (cond (item_passes p first) 1 0) (cond (item_passes p item) 1 0) = ap (λ (x : QueueItem). cond (item_passes p x) 1 0) (first_is first item queue rest is) in
    let both = count_cons (item_passes p) first queue in
    omega (arith, same, both)

taken_count : (p : Test) (d : Direction) (s : Stream) (item : QueueItem) (rest : List QueueItem) → (side_of d s).queue ≡ item ∷ rest → stream_count p (taken_from d s) + cond (item_passes p item) 1 0 ≡ stream_count p s
taken_count p Forth s item rest is = let one = first_count p s.forth s.forth.queue item rest is in omega (arith, one)
taken_count p Back s item rest is = let one = first_count p s.back s.back.queue item rest is in omega (arith, one)

all_taken : (p : Test) (d : Direction) (n : ℕ) (streams : List Stream) (s : Stream) (item : QueueItem) (rest : List QueueItem) → slice_get streams n ≡ Some s → (side_of d s).queue ≡ item ∷ rest → waiting_count p (with_stream (taken_from d) n streams) + cond (item_passes p item) 1 0 ≡ waiting_count p streams
all_taken p d n streams s item rest at is =
    let one = taken_count p d s item rest is in
    let both = waiting_set p streams n s (taken_from d s) at in
    rw at (omega (arith, one, both))

item_counts : (p : Test) (n : ℕ) (peer : Node) (item : QueueItem) → event_count p (event_of_item n peer item) ≡ cond (item_passes p item) 1 0
item_counts p n peer Opening = refl
item_counts p n peer (Queued bytes) = refl
item_counts p n peer Ending = refl

item_possible : (n : ℕ) (peer : Node) (item : QueueItem) → IsInSchedule (event_of_item n peer item)
item_possible n peer Opening = tt
item_possible n peer (Queued bytes) = tt
item_possible n peer Ending = tt

taken_counts : (p : Test) (n : ℕ) (d : Direction) (w : World) (s : Stream) (queue : List QueueItem) → slice_get w.streams n ≡ Some s → (side_of d s).queue ≡ queue → IfOk (taken n d w s queue) (ActCounts p w)
taken_counts p n d w s [] at is = tt
taken_counts p n d w s (item ∷ rest) at is =
    let all = all_taken p d n w.streams s item rest at is in
    let one = item_counts p n (node_at w (sender d s)) item in
    comes_counts p w (with_stream (taken_from d) n w.streams) (receiver d s) (event_of_item n (node_at w (sender d s)) item) (item_possible n (node_at w (sender d s)) item) (omega (arith, all, one))

taken_at_counts : (p : Test) (n : ℕ) (d : Direction) (w : World) (o : Option Stream) → slice_get w.streams n ≡ o → IfOk (taken_at n d w o) (ActCounts p w)
taken_at_counts p n d w None at = tt
taken_at_counts p n d w (Some s) at = taken_counts p n d w s (side_of d s).queue at refl

opened_counts : (p : Test) (from to : ℕ) (w : World) (two numbered : Bool) → IfOk (opened_if from to w two numbered) (ActCounts p w)
opened_counts p from to w false numbered = tt
opened_counts p from to w true false = tt
opened_counts p from to w true true =
    let both = waiting_both p w.streams (fresh_stream from to ∷ []) in
    let one = waiting_cons p (fresh_stream from to) [] in
    let none = none_waits p in
    record { tables = refl; count = omega (arith, both, one, none) }

cut_counts : (p : Test) (n : ℕ) (w : World) (ended : Bool) → IfOk (cut_if n w ended) (ActCounts p w)
cut_counts p n w true = tt
cut_counts p n w false =
    let less = with_more p 0 cut_stream n w.streams (slice_get w.streams n) refl (λ s. cut_count p s) in
    record { tables = refl; count = omega (arith, less) }

cut_at_counts : (p : Test) (n : ℕ) (w : World) (o : Option Stream) → IfOk (cut_at n w o) (ActCounts p w)
cut_at_counts p n w None = tt
cut_at_counts p n w (Some s) = cut_counts p n w s.ended

pub act_counts : (p : Test) (w : World) (act : Act) → IfOk (happens w act) (ActCounts p w)
act_counts p w (Local device c) = local_counts p w device c
act_counts p w (Deliver index device) = delivered_counts p device w (slice_get w.tables device) (slice_get w.sent index)
act_counts p w (NextFrame stream direction) = taken_at_counts p stream direction w (slice_get w.streams stream) refl
act_counts p w (OpenStream from to) = opened_counts p from to w (are_two from to w) _
act_counts p w (CutStream stream) = cut_at_counts p stream w (slice_get w.streams stream)
