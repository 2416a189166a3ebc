-- Which of an adapter's streams has been silent for too long, and which one makes room for a new connection. Volume 2,
-- chapter 2: an adapter ends a stream over which no message came for its encapsulation inactivity time-out. The standard
-- does not say what happens if all streams are taken; these are the rules of this line:
--
-- 1. One address has at most 8 streams. Its ninth takes the place of the one of its own that has been silent longest
--    among those without a session, or else among all of its own.
-- 2. If all 16 are taken, a new one takes the place of the one that has been silent longest among those without a
--    session, or else among those whose peer has no connection, of whatever class.
-- 3. If there is none, and no other stream is of its address, it takes the place of the one that has been silent longest
--    among those whose peer owns no output. If there is none, or its address has a stream, the new one is refused.
--
-- So a peer that cuts its power again and again takes only its own places, streams that only stay open keep nobody out,
-- connections that strangers keep open keep no owner out, and no stranger ends the stream of an owner.
use Rattle.std.specs.Prelude.{ℕ, ◌+◌, ◌-◌, ◌&&◌, min, nat_le, nat_eq, not, Bool, true, false, if◌then◌else◌, List, [], ◌∷◌, position, Option, Some, None}
use Rattle.std.specs.List.{list_any}
use Rattle.std.specs.Option.{is_none}
use Rattle.cip_types.specs.declared.names.Node.{Node}
use Rattle.socket_port.specs.declared.rules.keeper.KeptStream.{KeptStream}
use Rattle.socket_port.specs.declared.rules.keeper.Place.{Place}
use Rattle.socket_port.specs.declared.rules.keeper.Place.TheVariants.{Free, Instead, Refused}
use Rattle.socket_port.specs.declared.rules.choice.Candidates.{Candidates}
use Rattle.socket_port.specs.declared.rules.choice.Candidates.TheVariants.{OwnWithoutSession, Own, WithoutSession, WithoutConnection, WithoutOutput}

-- a keeper: the time-out in milliseconds (0: none), and the stream of each number from 0 on
pub record Keeper : Type 0 where
  pub limit_ms : ℕ
  pub streams : List (Option KeptStream)

-- the streams of one address are at most so many
abbrev pub most_of_one : ℕ
most_of_one = 8

-- the stream has been silent for the time-out
abbrev pub is_silent : ℕ → ℕ → Option KeptStream → Bool
is_silent limit now None = false
is_silent limit now (Some stream) = nat_le limit (now - stream.last_ms)

-- the first stream that has been silent for the time-out
abbrev pub silent_of : Keeper → ℕ → Option ℕ
silent_of keeper now = if nat_eq keeper.limit_ms 0 then None else position (is_silent keeper.limit_ms now) keeper.streams

-- the time until the stream has been silent for the time-out, or a shorter one
abbrev pub wait_for : ℕ → ℕ → ℕ → Option KeptStream → ℕ
wait_for limit now wait None = wait
wait_for limit now wait (Some stream) = min wait (limit - (now - stream.last_ms))

-- the time until the first of these streams has been silent for the time-out, or a shorter one
abbrev pub least_wait : ℕ → ℕ → ℕ → List (Option KeptStream) → ℕ
least_wait limit now wait [] = wait
least_wait limit now wait (stream ∷ streams) = least_wait limit now (wait_for limit now wait stream) streams

abbrev pub wait_of : Keeper → ℕ → ℕ → ℕ
wait_of keeper now most = if nat_eq keeper.limit_ms 0 then most else least_wait keeper.limit_ms now most keeper.streams

-- a stream that the peer opened at this time
abbrev pub begun : Node → ℕ → KeptStream
begun peer now = record { peer = peer; last_ms = now; registered = false }

-- the stream after a whole message at this time, and after its session was registered
abbrev pub received_at : ℕ → Option KeptStream → Option KeptStream
received_at now None = None
received_at now (Some stream) = Some (record stream { last_ms = now })

abbrev pub registered : Option KeptStream → Option KeptStream
registered None = None
registered (Some stream) = Some (record stream { registered = true })

-- it is a stream of this address
abbrev pub is_of : Node → KeptStream → Bool
is_of peer stream = nat_eq stream.peer.0 peer.0

-- its address is one of these
abbrev pub is_among : List Node → KeptStream → Bool
is_among nodes stream = list_any (λ node. nat_eq node.0 stream.peer.0) nodes

-- it is one of the group, for a new stream of this peer, while the first nodes have connections, and the others own outputs
abbrev pub is_in : Candidates → Node → List Node → List Node → KeptStream → Bool
is_in OwnWithoutSession peer connected owners stream = is_of peer stream && not stream.registered
is_in Own peer connected owners stream = is_of peer stream
is_in WithoutSession peer connected owners stream = not stream.registered
is_in WithoutConnection peer connected owners stream = not (is_among connected stream) && not (is_among owners stream)
is_in WithoutOutput peer connected owners stream = not (is_among owners stream)

-- when the last message of the stream came, if it is one of the group
abbrev pub last_in : Candidates → Node → List Node → List Node → Option KeptStream → Option ℕ
last_in group peer connected owners None = None
last_in group peer connected owners (Some stream) = if is_in group peer connected owners stream then Some stream.last_ms else None

-- the earlier of two times
abbrev pub earlier : Option ℕ → Option ℕ → Option ℕ
earlier None time = time
earlier (Some ms) None = Some ms
earlier (Some ms) (Some other) = Some (min ms other)

-- the earliest time at which the last message of one of the group came
abbrev pub earliest : (Option KeptStream → Option ℕ) → Option ℕ → List (Option KeptStream) → Option ℕ
earliest last best [] = best
earliest last best (stream ∷ streams) = earliest last (earlier best (last stream)) streams

abbrev pub is_at : ℕ → Option ℕ → Bool
is_at ms None = false
is_at ms (Some last) = nat_eq last ms

abbrev pub first_at : (Option KeptStream → Option ℕ) → Option ℕ → List (Option KeptStream) → Option ℕ
first_at last None streams = None
first_at last (Some ms) streams = position (λ stream. is_at ms (last stream)) streams

-- the first stream of the group whose last message came at the earliest time of the group
abbrev pub longest_silent : Candidates → Node → List Node → List Node → List (Option KeptStream) → Option ℕ
longest_silent group peer connected owners streams =
    first_at (last_in group peer connected owners) (earliest (last_in group peer connected owners) None streams) streams

-- how many streams are of this address
abbrev pub one_of : Node → Option KeptStream → ℕ
one_of peer None = 0
one_of peer (Some stream) = if is_of peer stream then 1 else 0

abbrev pub count_of : Node → ℕ → List (Option KeptStream) → ℕ
count_of peer count [] = count
count_of peer count (stream ∷ streams) = count_of peer (count + one_of peer stream) streams

-- a free number
abbrev pub is_free : Option KeptStream → Bool
is_free stream = is_none stream

-- the place of this stream, or else another place
abbrev pub instead_of : Option ℕ → Place → Place
instead_of None place = place
instead_of (Some number) place = Instead number

-- the place of one of the first group, or else of one of the second
abbrev pub place_among : Candidates → Candidates → Node → List Node → List Node → List (Option KeptStream) → Place
place_among first second peer connected owners streams =
    instead_of (longest_silent first peer connected owners streams) (instead_of (longest_silent second peer connected owners streams) Refused)

-- the place of a stream without a session, or else of one without a connection, or else of one of this group
abbrev pub place_of_others : Candidates → Node → List Node → List Node → List (Option KeptStream) → Place
place_of_others last peer connected owners streams =
    instead_of (longest_silent WithoutSession peer connected owners streams) (place_among WithoutConnection last peer connected owners streams)

-- the place for a new stream of this peer, while the first nodes have connections, and the others own outputs
abbrev pub place_of : Node → List Node → List Node → List (Option KeptStream) → Place
place_of peer connected owners streams =
    if nat_le most_of_one (count_of peer 0 streams) then place_among OwnWithoutSession Own peer connected owners streams
    else (if list_any is_free streams then Free
    else (if nat_eq (count_of peer 0 streams) 0 then place_of_others WithoutOutput peer connected owners streams
    else place_of_others WithoutConnection peer connected owners streams))
