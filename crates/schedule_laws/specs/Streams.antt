-- Streams between devices, by their two ends: what waits on a stream was given by one end, and the other takes it (Volume 2,
-- chapter 2, encapsulation sessions over TCP).
use Rattle.std.specs.Prelude.{ℕ, ◌≡◌, ◌≢◌, ◌⊎◌, List, map, slice_get, Some}
use Rattle.std.specs.List.{AllByRecursion}
use Rattle.cip_types.specs.declared.names.Node.{Node}
use Rattle.segment_world.specs.Transit.Streams.{QueueItem, Opening, Queued, Ending, Side, Stream}
use Rattle.segment_world.specs.World.{World, node_at}

-- the two devices of a stream
pub record Ends : Type 0 where
  pub from : ℕ
  pub to : ℕ

abbrev pub ends_of : Stream → Ends
ends_of s = record { from = s.from; to = s.to }

-- what may hold of the bytes that one device gave and that wait for another
abbrev pub Waiting : Type 1
Waiting = ℕ → ℕ → List ℕ → Type 0

abbrev pub ItemWaits : Waiting → ℕ → ℕ → QueueItem → Type 0
ItemWaits Q giver taker Opening = Unit {0}
ItemWaits Q giver taker (Queued bytes) = Q giver taker bytes
ItemWaits Q giver taker Ending = Unit {0}

abbrev pub SideWaits : Waiting → ℕ → ℕ → Side → Type 0
SideWaits Q giver taker side = AllByRecursion (ItemWaits Q giver taker) side.queue

-- it holds of each frame that waits on the stream, which goes between two devices
pub record StreamWaits (Q : Waiting) (s : Stream) : Type 0 where
  pub apart : s.from ≢ s.to
  pub forth : SideWaits Q s.from s.to s.forth
  pub back : SideWaits Q s.to s.from s.back

abbrev pub StreamsWait : Waiting → List Stream → Type 0
StreamsWait Q streams = AllByRecursion (StreamWaits Q) streams

-- two numbers are these
pub record AreThese (a b x y : ℕ) : Type 0 where
  pub first : a ≡ x
  pub second : b ≡ y

-- the stream goes from one of them to the other, in either direction
abbrev pub IsBetween : Ends → ℕ → ℕ → Type 0
IsBetween e device other = AreThese e.from e.to device other ⊎ AreThese e.from e.to other device

-- the world's stream of this number goes between the device and the other one
pub record IsOver (w : World) (device other n : ℕ) : Type 0 where
  pub ends : Ends
  pub there : slice_get (map ends_of w.streams) n ≡ Some ends
  pub apart : ends.from ≢ ends.to
  pub between : IsBetween ends device other

-- A DEVICE'S STREAMS

-- an open stream of this number and peer stands in the world, between the device and another one whose node is the peer
pub record IsOpenTo (w : World) (device number : ℕ) (peer : Node) : Type 0 where
  pub other : ℕ
  pub over : IsOver w device other number
  pub peer_is : peer ≡ node_at w other
