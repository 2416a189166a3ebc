-- How an event can come to a device now.
use Rattle.std.specs.Prelude.{◌≡◌, ◌⊎◌, ℕ, true, false, List, [], ◌∷◌, slice_get, Option, Some, None}
use Rattle.cip_types.specs.declared.names.Node.{Node}
use Rattle.cip_events.specs.declared.event.Event.{Event}
use Rattle.cip_events.specs.declared.event.Event.TheVariants.{Request, StreamOpened, Frame, StreamCut, Datagram}
use Rattle.segment_world.specs.Transit.Log.{Sent}
use Rattle.segment_world.specs.declared.transit.direction.Direction.{Direction}
use Rattle.segment_world.specs.declared.transit.direction.Direction.TheVariants.{Forth, Back}
use Rattle.segment_world.specs.Transit.Streams.{QueueItem, Stream, side_of, receiver, sender}
use Rattle.segment_world.specs.declared.act.Act.{Act}
use Rattle.segment_world.specs.declared.act.Act.TheVariants.{Local, Deliver, NextFrame, OpenStream, CutStream}
use Rattle.segment_world.specs.World.{World, happens, event_at_device, node_at, event_of_item}

-- the first of a queue is this event
abbrev pub IsFrontOf : ℕ → Node → Event → List QueueItem → Type 0
IsFrontOf n peer e [] = ⊥
IsFrontOf n peer e (x ∷ xs) = event_of_item n peer x ≡ e

-- the first that waits in a direction of a stream is this event of this device
abbrev pub IsFrontAt : World → ℕ → Direction → ℕ → Event → Option Stream → Type 0
IsFrontAt w n d i e None = ⊥
IsFrontAt w n d i e (Some s) = (receiver d s ≡ i) × IsFrontOf n (node_at w (sender d s)) e (side_of d s).queue

abbrev pub IsFront : World → ℕ → Direction → ℕ → Event → Type 0
IsFront w n d i e = IsFrontAt w n d i e (slice_get w.streams n)

-- .. in one of its two directions
abbrev pub WaitsFirst : World → ℕ → ℕ → Event → Type 0
WaitsFirst w n i e = IsFront w n Forth i e ⊎ IsFront w n Back i e

abbrev pub WasSent : List Sent → Node → List ℕ → Type 0
WasSent sent peer bytes = (k : ℕ) × (slice_get sent k ≡ Some (record { from = peer; bytes = bytes }))

-- The event can come to the device by an act that is no cut: it waits first on its stream, it is a datagram that was
-- sent, or the application, time, or a peer outside with an inquiry does it. No act is a request over no stream.
abbrev pub CanCome : World → ℕ → Event → Type 0
CanCome w i (Request peer bytes) = ⊥
CanCome w i (StreamOpened stream peer) = WaitsFirst w stream i (StreamOpened stream peer)
CanCome w i (Frame stream bytes) = WaitsFirst w stream i (Frame stream bytes)
CanCome w i (StreamCut stream) = WaitsFirst w stream i (StreamCut stream)
CanCome w i (Datagram peer bytes) = WasSent w.sent peer bytes
CanCome w i other = Unit {0}

-- the act neither opens nor cuts a stream
abbrev pub IsOfDevice : Act → Type 0
IsOfDevice (Local device call) = Unit {0}
IsOfDevice (Deliver index device) = Unit {0}
IsOfDevice (NextFrame stream direction) = Unit {0}
IsOfDevice (OpenStream from to) = ⊥
IsOfDevice (CutStream stream) = ⊥

-- the act makes this event of this device
pub record Causes (w : World) (i : ℕ) (e : Event) (a : Act) : Type 0 where
  pub at : World
  pub tables : at.tables ≡ w.tables
  pub is : happens w a ≡ event_at_device i e at
  pub plain : IsOfDevice a

-- a cut of this stream would reach this device, which takes from this direction
abbrev pub CutReachesAt : ℕ → Direction → Option Stream → Type 0
CutReachesAt i d None = ⊥
CutReachesAt i d (Some s) = (s.ended ≡ false) × (receiver d s ≡ i) × ((side_of d s).taken ≡ true)

abbrev pub CutReaches : World → ℕ → ℕ → Direction → Type 0
CutReaches w n i d = CutReachesAt i d (slice_get w.streams n)
