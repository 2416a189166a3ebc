-- Worlds in which an event of a device has no way to it.
use Rattle.std.proofs.Common.{◌≡◌, ℕ, zero, suc, ◌<◌, List, [], ◌∷◌, slice_index, inl, inr, ap, subst, refl, arith}
use Rattle.cip_types.specs.declared.names.Node.{Node}
use Rattle.cip_events.specs.declared.event.Event.{Event}
use Rattle.cip_events.specs.declared.event.Event.TheVariants.{Frame, Datagram}
use Rattle.cip_tables.specs.declared.table.DeviceTable.{DeviceTable}
use Rattle.segment_world.specs.Transit.Log.{Sent}
use Rattle.segment_world.specs.Transit.Streams.{Stream, fresh_stream}
use Rattle.segment_world.specs.Story.{runs}
use Rattle.segment_world.specs.World.{World}
use Rattle.settling.specs.Search.Causes.{CanCome}
use Rattle.settling.specs.Search.Schedules.{IsStuck, NoCutReaches, NoWay, Stuck, remaining}
use Rattle.settling.proofs.Causing.{no_way}
use Rattle.settling.specs.Search.Lemmas.Cases.{none_some, some_is}

abbrev node : ℕ → Node
node n = record { 0 = n }

-- two devices at these addresses, whatever their tables, with what was sent and the streams
abbrev world : List DeviceTable → List Sent → List Stream → World
world tables sent streams = record { nodes = node 10 ∷ node 20 ∷ []; tables = tables; sent = sent; streams = streams }

-- DATAGRAMS

-- the second device has sent another datagram
abbrev other : List Sent
other = record { from = node 20; bytes = 1 ∷ [] } ∷ []

-- what nobody has sent
abbrev unsent : Event
unsent = Datagram (node 20) (2 ∷ [])

unsent_cannot_come : (tables : List DeviceTable) (device : ℕ) → CanCome (world tables other []) device unsent → ⊥
unsent_cannot_come tables device (zero, is) =
    let same : ◌≡◌ {A = List ℕ} (1 ∷ []) (2 ∷ []) = ap (λ (s : Sent). s.bytes) (some_is (record { from = node 20; bytes = 1 ∷ [] }) (record { from = node 20; bytes = 2 ∷ [] }) is) in
    absurd (cc)
unsent_cannot_come tables device (suc k, is) = none_some (record { from = node 20; bytes = 2 ∷ [] }) is

unsent_is_no_cut : (rest : ℕ → List Event) (w : World) (device : ℕ) → NoCutReaches rest w device unsent
unsent_is_no_cut rest w device n is permitted d reaches = absurd (let e = is in cc)

pub no_way_of_what_is_unsent : (rest : ℕ → List Event) (tables : List DeviceTable) (device : ℕ) → NoWay rest (world tables other []) device unsent
no_way_of_what_is_unsent rest tables device =
    no_way rest (world tables other []) device unsent (unsent_cannot_come tables device) (unsent_is_no_cut rest (world tables other []) device)

-- STREAMS

-- the mark of the new stream waits, and no frame
abbrev opened : List Stream
opened = fresh_stream 0 1 ∷ []

frame_cannot_come : (tables : List DeviceTable) → CanCome (world tables [] opened) 1 (Frame 0 []) → ⊥
frame_cannot_come tables (inl (receiver, front)) = absurd (let e = front in cc)
frame_cannot_come tables (inr (receiver, front)) = absurd (let e = front in cc)

pub no_way_of_a_frame_before_the_mark : (rest : ℕ → List Event) (tables : List DeviceTable) → NoWay rest (world tables [] opened) 1 (Frame 0 [])
no_way_of_a_frame_before_the_mark rest tables =
    no_way rest (world tables [] opened) 1 (Frame 0 []) (frame_cannot_come tables) (λ n is permitted d reaches. absurd (let e = is in cc))

-- A SCHEDULE THAT IS STUCK

-- the first device has it to come; the second has nothing
abbrev events : List (List Event)
events = (unsent ∷ []) ∷ [] ∷ []

head_is : (x y : Event) (xs ys : List Event) → x ∷ xs ≡ y ∷ ys → x ≡ y
head_is x y xs ys is = cc

stuck_at_once : (tables : List DeviceTable) → Stuck events (record { world = world tables other []; reported = [] })
stuck_at_once tables zero e es is =
    subst (λ (x : Event). NoWay (remaining events []) (world tables other []) 0 x) (head_is unsent e [] es is) (no_way_of_what_is_unsent (remaining events []) tables 0)
stuck_at_once tables (suc zero) e es is = absurd (let f = is in cc)
stuck_at_once tables (suc (suc i)) e es is = absurd (let f = is in cc)

no_lower : (i : ℕ) → i < 2 → slice_index (16 ∷ 17 ∷ []) i < 16 → remaining events [] i ≡ []
no_lower zero lt lower = absurd (omega arith)
no_lower (suc zero) lt lower = refl
no_lower (suc (suc i)) lt lower = absurd (omega arith)

pub stuck : (tables : List DeviceTable) → IsStuck (world tables other []) events (16 ∷ 17 ∷ []) 0 0
unfolding runs
stuck tables = record {
  acts = [];
  story = record { world = world tables other []; reported = [] };
  runs_so = refl;
  starts = λ i. refl;
  orderly = tt;
  stuck = stuck_at_once tables;
  place = refl;
  over = (unsent, [], refl);
  lowest = no_lower;
}
