-- Streams between the devices of a simulated network: their queues, and what a device's answer does to them.
use Rattle.std.specs.Prelude.{ℕ, ◌==◌, ◌||◌, Bool, true, false, if◌then◌else◌, List, [], ◌∷◌, ◌++◌, set, slice_get, Option, Some, None}
use Rattle.cip_events.specs.declared.event.Answer.{Answer}
use Rattle.cip_events.specs.declared.event.Frame.{Frame}
use Rattle.cip_events.specs.declared.event.Recipient.{Recipient}
use Rattle.cip_events.specs.declared.event.Recipient.TheVariants as recipient
use Rattle.cip_events.specs.declared.event.Notice.{Notice}
use Rattle.cip_events.specs.declared.event.Notice.TheVariants.{Opened, Closed, Expired, Dropped, Replaced, StreamClosed, Slot, Refused, NoIds, Reset, Unanswered}
use Rattle.segment_world.specs.declared.transit.direction.Direction.{Direction}
use Rattle.segment_world.specs.declared.transit.direction.Direction.TheVariants.{Forth, Back}

-- an item in the queue of one direction: the mark that the stream has opened, a frame, or the mark that it was cut
pub data QueueItem : Type 0 where
  Opening : QueueItem
  Queued : List ℕ → QueueItem
  Ending : QueueItem

-- one direction: whether its end has received the mark that the stream has opened, and the queue for that end, in order
pub record Side : Type 0 where
  pub taken : Bool
  pub queue : List QueueItem

-- A stream from one device to another, both given by their indices. `forth` goes to the device that accepted it, `back` to
-- the one that opened it.
pub record Stream : Type 0 where
  pub from : ℕ
  pub to : ℕ
  pub ended : Bool
  pub forth : Side
  pub back : Side

-- DIRECTIONS

abbrev pub side_of : Direction → Stream → Side
side_of Forth s = s.forth
side_of Back s = s.back

abbrev pub with_side : Direction → Stream → Side → Stream
with_side Forth s side = record s { forth = side }
with_side Back s side = record s { back = side }

-- the device that receives in a direction, and the one that sends
abbrev pub receiver : Direction → Stream → ℕ
receiver Forth s = s.to
receiver Back s = s.from

abbrev pub sender : Direction → Stream → ℕ
sender Forth s = s.from
sender Back s = s.to

-- The direction in which a device sends over a stream: none if the stream has ended, or is no stream of the device.
abbrev pub way_between : ℕ → Bool → ℕ → ℕ → Option Direction
way_between device ended from to = if ended then None else if from == device then Some Forth else if to == device then Some Back else None

abbrev pub way_from : ℕ → Stream → Option Direction
way_from device s = way_between device s.ended s.from s.to

-- ONE STREAM AMONG ALL

-- the streams after a change of the stream of this number, if there is one
abbrev pub changed : (Stream → Stream) → List Stream → ℕ → Option Stream → List Stream
changed change streams n None = streams
changed change streams n (Some s) = set streams n (change s)

abbrev pub with_stream : (Stream → Stream) → ℕ → List Stream → List Stream
with_stream change n streams = changed change streams n (slice_get streams n)

-- WHAT A DEVICE SENDS

abbrev pub queued : QueueItem → Side → Side
queued item side = record side { queue = side.queue ++ item ∷ [] }

abbrev pub sent_along : List ℕ → Stream → Option Direction → Stream
sent_along bytes s None = s
sent_along bytes s (Some direction) = with_side direction s (queued (Queued bytes) (side_of direction s))

-- a frame of the device waits for the other end; a frame that cannot be sent is lost
abbrev pub sent_over : ℕ → List ℕ → Stream → Stream
sent_over device bytes s = sent_along bytes s (way_from device s)

-- frames for a peer answer requests and inquiries that came over no stream
abbrev pub frame_sent : ℕ → List Stream → List ℕ → Recipient → List Stream
frame_sent device streams bytes (recipient.Stream n) = with_stream (sent_over device bytes) n streams
frame_sent device streams bytes (recipient.Peer node) = streams

unfoldable pub frames_sent : ℕ → List Stream → List Frame → List Stream
frames_sent device streams [] = streams
frames_sent device streams (frame ∷ frames) = frames_sent device (frame_sent device streams frame.bytes frame.to) frames

-- STREAMS THAT END

abbrev pub emptied : Side → Side
emptied side = record side { queue = [] }

-- only the mark that the stream was cut waits, if the end has received the mark that it has opened
abbrev pub ended_side : Side → Side
ended_side side = record side { queue = if side.taken then Ending ∷ [] else [] }

-- the stream is cut: the mark waits for both ends
abbrev pub cut_stream : Stream → Stream
cut_stream s = record s { ended = true; forth = ended_side s.forth; back = ended_side s.back }

-- one end closes the stream: the mark waits for the other end alone
abbrev pub closed_along : Stream → Option Direction → Stream
closed_along s None = s
closed_along s (Some Forth) = record s { ended = true; forth = ended_side s.forth; back = emptied s.back }
closed_along s (Some Back) = record s { ended = true; forth = emptied s.forth; back = ended_side s.back }

abbrev pub closed_by : ℕ → Stream → Stream
closed_by device s = closed_along s (way_from device s)

-- of the notices, only the close of a stream changes streams
abbrev pub notice_applied : ℕ → List Stream → Notice → List Stream
notice_applied device streams (StreamClosed n) = with_stream (closed_by device) n streams
notice_applied device streams (Opened triad id) = streams
notice_applied device streams (Closed triad) = streams
notice_applied device streams (Expired triad) = streams
notice_applied device streams (Dropped triad) = streams
notice_applied device streams (Replaced triad) = streams
notice_applied device streams (Slot slot state) = streams
notice_applied device streams (Refused slot reason) = streams
notice_applied device streams (NoIds slot) = streams
notice_applied device streams (Reset kind) = streams
notice_applied device streams (Unanswered number why) = streams

unfoldable pub notices_applied : ℕ → List Stream → List Notice → List Stream
notices_applied device streams [] = streams
notices_applied device streams (notice ∷ notices) = notices_applied device (notice_applied device streams notice) notices

-- the streams after a device's answer: first its frames are sent, then its notices close streams
abbrev pub answered : ℕ → Answer → List Stream → List Stream
answered device answer streams = notices_applied device (frames_sent device streams answer.frames) answer.notices

-- RECEIVING

abbrev pub is_opening : QueueItem → Bool
is_opening Opening = true
is_opening (Queued bytes) = false
is_opening Ending = false

-- the end receives the front of its queue
abbrev pub without_first : Side → List QueueItem → Side
without_first side [] = side
without_first side (item ∷ rest) = record side { taken = side.taken || is_opening item; queue = rest }

abbrev pub taken_from : Direction → Stream → Stream
taken_from direction s = with_side direction s (without_first (side_of direction s) (side_of direction s).queue)

-- NEW STREAMS

abbrev pub fresh_side : Side
fresh_side = record { taken = false; queue = Opening ∷ [] }

abbrev pub fresh_stream : ℕ → ℕ → Stream
fresh_stream from to = record { from = from; to = to; ended = false; forth = fresh_side; back = fresh_side }
