-- What the definitions give at worked values.
use Rattle.std.proofs.Common.{◌≡◌, ℕ, true, false, List, [], ◌∷◌, Some, None, refl}
use Rattle.cip_types.specs.declared.names.Node.{Node}
use Rattle.cip_events.specs.declared.event.Event.{Event}
use Rattle.cip_events.specs.declared.event.Event.TheVariants.{StreamOpened, Frame, StreamCut, Tick}
use Rattle.segment_world.specs.declared.act.Act.TheVariants.{OpenStream}
use Rattle.segment_world.specs.Transit.Streams.{fresh_stream}
use Rattle.settling.specs.Search.Lowest.{lower_of}
use Rattle.settling.specs.Search.Openings.{named_by, opens, pair_of}
use Rattle.settling.specs.Search.Schedules.{history, is_unused}

abbrev node : ℕ → Node
node n = record { 0 = n }

-- the addresses of three devices
abbrev nodes : List Node
nodes = node 10 ∷ node 20 ∷ node 30 ∷ []

-- the third device learns of stream 1, and that its peer is the first device; the second has a frame of stream 0
abbrev three : List (List Event)
three = [] ∷ (Frame 0 [] ∷ []) ∷ (Tick 1 ∷ StreamOpened 1 (node 10) ∷ []) ∷ []

-- STREAMS THAT ARE OPENED FIRST

-- streams 0 and 1 are named
two_named : named_by three ≡ 2
two_named = refl

-- stream 1 is opened by the device that learns of it, to the peer that it learns
to_the_peer : pair_of nodes three 1 ≡ (2, 0)
to_the_peer = refl

-- no device learns who opens stream 0
by_the_first_two : pair_of nodes three 0 ≡ (0, 1)
by_the_first_two = refl

-- no device has the address of this peer
to_nobody : pair_of nodes ((StreamOpened 0 (node 99) ∷ []) ∷ [] ∷ []) 0 ≡ (0, 1)
to_nobody = refl

in_order : opens nodes three ≡ OpenStream 0 1 ∷ OpenStream 2 0 ∷ []
in_order = refl

-- a stream needs two devices
none_of_one : opens (node 10 ∷ []) ((Frame 3 [] ∷ []) ∷ []) ≡ []
none_of_one = refl

-- CUTS

-- the second device has a frame of stream 0 to come
still_used : is_unused 0 (history three) (Some (fresh_stream 0 1)) ≡ false
still_used = refl

-- a frame of another stream, and the cut itself, do not use it
not_used : is_unused 0 (history ((Frame 1 [] ∷ []) ∷ (StreamCut 0 ∷ []) ∷ [])) (Some (fresh_stream 0 1)) ≡ true
not_used = refl

-- what a third device has to come does not count
of_others : is_unused 1 (history three) (Some (fresh_stream 0 1)) ≡ true
of_others = refl

no_stream : is_unused 0 (history three) None ≡ false
no_stream = refl

-- THE LOWEST BYTE

lower_byte : lower_of (32 ∷ 16 ∷ []) (Some (0, 5)) (1, 7) ≡ (1, 7)
lower_byte = refl

higher_byte : lower_of (16 ∷ 32 ∷ []) (Some (0, 5)) (1, 7) ≡ (0, 5)
higher_byte = refl

first_find : lower_of (16 ∷ 32 ∷ []) None (1, 7) ≡ (1, 7)
first_find = refl
