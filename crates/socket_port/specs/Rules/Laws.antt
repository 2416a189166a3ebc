-- A law of the place for a new stream.
use Rattle.std.specs.Prelude.{◌≡◌, ℕ, ◌||◌, ◌&&◌, nat_eq, not, Bool, true, List, slice_index_or, Option, Some, None}
use Rattle.cip_types.specs.declared.names.Node.{Node}
use Rattle.socket_port.specs.declared.rules.keeper.KeptStream.{KeptStream}
use Rattle.socket_port.specs.declared.rules.keeper.Place.TheVariants.{Instead}
use Rattle.socket_port.specs.Rules.Keeping.{count_of, is_among, is_of, place_of}

-- the stream may make room for a new one of this peer: it is one of the peer's own, or it has no session, or its peer owns no
-- output, and either has no connection or the new stream is the first one of its address
abbrev pub may_make_room : Node → List Node → List Node → List (Option KeptStream) → KeptStream → Bool
may_make_room peer connected owners streams stream =
    is_of peer stream
    || (not stream.registered
    || (not (is_among owners stream)
    && (not (is_among connected stream) || nat_eq (count_of peer 0 streams) 0)))

-- A stream that makes room may do so. So the stream with a session of a peer that owns an output makes room for no stream of
-- another address, and that of a peer with another connection only for the first one of an address.
abbrev pub OwnersStay : Type 0
OwnersStay =
    (peer : Node) (connected owners : List Node) (streams : List (Option KeptStream)) (number : ℕ) (stream : KeptStream)
    → place_of peer connected owners streams ≡ Instead number
    → slice_index_or streams number None ≡ Some stream
    → may_make_room peer connected owners streams stream ≡ true
