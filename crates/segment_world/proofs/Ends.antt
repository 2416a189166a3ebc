-- The ends of streams are devices of the world, whatever happens on the streams.
use Rattle.std.proofs.Common.{◌≡◌, ◌<◌, ℕ, zero, suc, List, [], ◌∷◌, slice_get, Option, Some, None, refl, sym, subst}
use Rattle.std.specs.List.{AllByRecursion}
use Rattle.std.proofs.lemmas.Option.{same_Some}
use Rattle.cip_events.specs.declared.event.Answer.{Answer}
use Rattle.cip_events.specs.declared.event.Frame.{Frame}
use Rattle.cip_events.specs.declared.event.Recipient.{Recipient}
use Rattle.cip_events.specs.declared.event.Recipient.TheVariants as recipient
use Rattle.cip_events.specs.declared.event.Notice.{Notice}
use Rattle.cip_events.specs.declared.event.Notice.TheVariants.{Opened, Closed, Expired, Dropped, Replaced, StreamClosed, Slot, Refused, NoIds, Reset, Unanswered}
use Rattle.segment_world.specs.declared.transit.direction.Direction.{Direction}
use Rattle.segment_world.specs.declared.transit.direction.Direction.TheVariants.{Forth, Back}
use Rattle.segment_world.specs.Transit.Streams.{Stream, way_from, changed, with_stream, sent_along, sent_over, frame_sent, frames_sent, closed_along, closed_by, notice_applied, notices_applied, answered, taken_from}

-- both ends are devices of a world that has this many
abbrev pub AreEnds : ℕ → Stream → Type 0
AreEnds count s = (s.from < count) × (s.to < count)

abbrev pub KeepsEnds : (Stream → Stream) → Type 0
KeepsEnds change = (s : Stream) → ((change s).from ≡ s.from) × ((change s).to ≡ s.to)

pub ends_at : (count : ℕ) (streams : List Stream) (n : ℕ) (s : Stream) → AllByRecursion (AreEnds count) streams → slice_get streams n ≡ Some s → AreEnds count s
ends_at count [] n s all at = absurd (let e = at in cc)
ends_at count (first ∷ streams) zero s all at = subst (AreEnds count) (same_Some first s at) all.0
ends_at count (first ∷ streams) (suc n) s all at = ends_at count streams n s all.1 at

pub ends_kept : (count : ℕ) (change : Stream → Stream) → KeepsEnds change → (s : Stream) → AreEnds count s → AreEnds count (change s)
ends_kept count change keeps s ends =
    let is = keeps s in
    (subst (λ (n : ℕ). n < count) (sym is.0) ends.0, subst (λ (n : ℕ). n < count) (sym is.1) ends.1)

changed_behind : (change : Stream → Stream) (s : Stream) (streams : List Stream) (n : ℕ) (o : Option Stream) → changed change (s ∷ streams) (suc n) o ≡ s ∷ changed change streams n o
changed_behind change s streams n None = refl
changed_behind change s streams n (Some found) = refl

pub all_changed : (count : ℕ) (change : Stream → Stream) → KeepsEnds change → (n : ℕ) (streams : List Stream) → AllByRecursion (AreEnds count) streams → AllByRecursion (AreEnds count) (with_stream change n streams)
all_changed count change keeps n [] all = tt
all_changed count change keeps zero (s ∷ streams) all = (ends_kept count change keeps s all.0, all.1)
all_changed count change keeps (suc n) (s ∷ streams) all =
    subst (AllByRecursion (AreEnds count)) (sym (changed_behind change s streams n (slice_get streams n))) (all.0, all_changed count change keeps n streams all.1)

-- WHAT A DEVICE SENDS

along_keeps : (bytes : List ℕ) (s : Stream) (way : Option Direction) → ((sent_along bytes s way).from ≡ s.from) × ((sent_along bytes s way).to ≡ s.to)
along_keeps bytes s None = (refl, refl)
along_keeps bytes s (Some Forth) = (refl, refl)
along_keeps bytes s (Some Back) = (refl, refl)

sent_keeps : (device : ℕ) (bytes : List ℕ) → KeepsEnds (sent_over device bytes)
sent_keeps device bytes s = along_keeps bytes s (way_from device s)

frame_keeps : (count device : ℕ) (streams : List Stream) (bytes : List ℕ) (to : Recipient) → AllByRecursion (AreEnds count) streams → AllByRecursion (AreEnds count) (frame_sent device streams bytes to)
frame_keeps count device streams bytes (recipient.Stream n) all = all_changed count (sent_over device bytes) (sent_keeps device bytes) n streams all
frame_keeps count device streams bytes (recipient.Peer node) all = all

frames_keep : (count device : ℕ) (streams : List Stream) (frames : List Frame) → AllByRecursion (AreEnds count) streams → AllByRecursion (AreEnds count) (frames_sent device streams frames)
unfolding frames_sent
frames_keep count device streams [] all = all
frames_keep count device streams (frame ∷ frames) all = frames_keep count device (frame_sent device streams frame.bytes frame.to) frames (frame_keeps count device streams frame.bytes frame.to all)

-- STREAMS THAT END

close_keeps : (s : Stream) (way : Option Direction) → ((closed_along s way).from ≡ s.from) × ((closed_along s way).to ≡ s.to)
close_keeps s None = (refl, refl)
close_keeps s (Some Forth) = (refl, refl)
close_keeps s (Some Back) = (refl, refl)

closed_keeps : (device : ℕ) → KeepsEnds (closed_by device)
closed_keeps device s = close_keeps s (way_from device s)

notice_keeps : (count device : ℕ) (streams : List Stream) (notice : Notice) → AllByRecursion (AreEnds count) streams → AllByRecursion (AreEnds count) (notice_applied device streams notice)
notice_keeps count device streams (StreamClosed n) all = all_changed count (closed_by device) (closed_keeps device) n streams all
notice_keeps count device streams (Opened triad id) all = all
notice_keeps count device streams (Closed triad) all = all
notice_keeps count device streams (Expired triad) all = all
notice_keeps count device streams (Dropped triad) all = all
notice_keeps count device streams (Replaced triad) all = all
notice_keeps count device streams (Slot slot state) all = all
notice_keeps count device streams (Refused slot reason) all = all
notice_keeps count device streams (NoIds slot) all = all
notice_keeps count device streams (Reset kind) all = all
notice_keeps count device streams (Unanswered number why) all = all

notices_keep : (count device : ℕ) (streams : List Stream) (notices : List Notice) → AllByRecursion (AreEnds count) streams → AllByRecursion (AreEnds count) (notices_applied device streams notices)
unfolding notices_applied
notices_keep count device streams [] all = all
notices_keep count device streams (notice ∷ notices) all = notices_keep count device (notice_applied device streams notice) notices (notice_keeps count device streams notice all)

pub answers_keep : (count device : ℕ) (answer : Answer) (streams : List Stream) → AllByRecursion (AreEnds count) streams → AllByRecursion (AreEnds count) (answered device answer streams)
answers_keep count device answer streams all = notices_keep count device (frames_sent device streams answer.frames) answer.notices (frames_keep count device streams answer.frames all)

-- RECEIVING

pub taken_keeps : (direction : Direction) → KeepsEnds (taken_from direction)
taken_keeps Forth s = (refl, refl)
taken_keeps Back s = (refl, refl)
