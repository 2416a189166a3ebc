-- Streams in memory: one list of their ends, and one list of the queued frames of all streams.
use Rattle.std.specs.Prelude.{◌≡◌, ◌<◌, ℕ, suc, ◌==◌, ◌&&◌, not, Bool, true, false, if◌then◌else◌, List, [], ◌∷◌, ◌++◌, slice_get, Option, Some, None}
use Rattle.segment_world.specs.declared.transit.direction.Direction.{Direction}
use Rattle.segment_world.specs.declared.transit.direction.Direction.TheVariants.{Forth, Back}
use Rattle.segment_world.specs.declared.transit.links.StreamEnd.{StreamEnd}
use Rattle.segment_world.specs.declared.transit.links.StreamLink.{StreamLink}
use Rattle.segment_world.specs.declared.transit.waiting.QueuedFrame.{QueuedFrame}
use Rattle.segment_world.specs.Transit.Streams.{QueueItem, Opening, Queued, Ending, Side, Stream}

-- the streams, and the number of frames that can be queued without memory
pub record Queues : Type 0 where
  pub streams : List Stream
  pub space : ℕ

abbrev pub is_same : Direction → Direction → Bool
is_same Forth Forth = true
is_same Forth Back = false
is_same Back Forth = false
is_same Back Back = true

abbrev pub is_in : ℕ → Direction → QueuedFrame → Bool
is_in n direction waiting = (waiting.stream == n) && is_same waiting.direction direction

abbrev pub is_elsewhere : ℕ → QueuedFrame → Bool
is_elsewhere n waiting = not (waiting.stream == n)

-- the frames that wait in this direction of the stream of this number
unfoldable pub frames_of : ℕ → Direction → List QueuedFrame → List QueueItem
frames_of n direction [] = []
frames_of n direction (first ∷ waiting) = if is_in n direction first then Queued first.bytes ∷ frames_of n direction waiting else frames_of n direction waiting

abbrev pub opening_of : Bool → List QueueItem
opening_of true = []
opening_of false = Opening ∷ []

-- a direction of a stream, which has ended or has not
abbrev pub side_in : Bool → List QueueItem → StreamEnd → Side
side_in true frames end = record { taken = end.taken; queue = if end.ending then Ending ∷ [] else [] }
side_in false frames end = record { taken = end.taken; queue = opening_of end.taken ++ frames }

abbrev pub stream_in : ℕ → List QueuedFrame → StreamLink → Stream
stream_in n waiting link = record {
  from = link.from;
  to = link.to;
  ended = link.ended;
  forth = side_in link.ended (frames_of n Forth waiting) link.forth;
  back = side_in link.ended (frames_of n Back waiting) link.back;
}

-- the streams of these links, the first of which has this number
unfoldable pub streams_in : ℕ → List QueuedFrame → List StreamLink → List Stream
streams_in n waiting [] = []
streams_in n waiting (link ∷ links) = stream_in n waiting link ∷ streams_in (suc n) waiting links

-- each frame waits on one of so many streams
unfoldable pub AreNumbered : ℕ → List QueuedFrame → Type 0
AreNumbered count [] = Unit {0}
AreNumbered count (first ∷ waiting) = (first.stream < count) × AreNumbered count waiting

-- there is such a stream, and it has not ended
abbrev pub is_living : Option StreamLink → Bool
is_living None = false
is_living (Some link) = not link.ended

-- each frame waits on a stream that has not ended
unfoldable pub AreLive : List StreamLink → List QueuedFrame → Type 0
AreLive links [] = Unit {0}
AreLive links (first ∷ waiting) = (is_living (slice_get links first.stream) ≡ true) × AreLive links waiting
