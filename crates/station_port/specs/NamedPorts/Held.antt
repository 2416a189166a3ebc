-- The destinations of the connections whose peers have named one, the oldest entry first.
use Rattle.std.specs.Prelude.{ℕ, ◌==◌, ◌&&◌, ◌||◌, not, nat_lt, if◌then◌else◌, Bool, List, [], ◌∷◌, ◌++◌, length, drop, filter, Option, Some, None}
use Rattle.std.specs.Option.{option_map}
use Rattle.cip_types.specs.declared.names.Node.{Node}
use Rattle.cip_types.specs.declared.names.Triad.{Triad}
use Rattle.cip_encap.specs.declared.packet.SocketAddress.{SocketAddress}
use Rattle.station_port.specs.declared.named_ports.held.NamedRoute.{NamedRoute}
use Rattle.station_port.specs.declared.named_ports.reply.ReplyOutcome.{ReplyOutcome}
use Rattle.station_port.specs.declared.named_ports.reply.ReplyOutcome.TheVariants.{Opened, Closed, Nothing}
use Rattle.station_port.specs.NamedPorts.Destinations.{at_host}

-- the entry is that of the datagrams of this id to this peer
abbrev pub is_for : Node → ℕ → NamedRoute → Bool
is_for peer id entry = (entry.peer.0 == peer.0) && (entry.id == id)

abbrev pub has_triad : Triad → NamedRoute → Bool
has_triad triad entry = entry.triad.serial == triad.serial && (entry.triad.vendor == triad.vendor && entry.triad.originator == triad.originator)

-- an opening takes the place of the entry
abbrev pub is_replaced : Node → Triad → ℕ → NamedRoute → Bool
is_replaced peer triad id entry = has_triad triad entry || is_for peer id entry

abbrev pub without_triad : Triad → List NamedRoute → List NamedRoute
without_triad triad held = filter (λ entry. not (has_triad triad entry)) held

abbrev pub without_replaced : Node → Triad → ℕ → List NamedRoute → List NamedRoute
without_replaced peer triad id held = filter (λ entry. not (is_replaced peer triad id entry)) held

-- there are at most 64 entries: the oldest makes room
abbrev pub with_entry : NamedRoute → List NamedRoute → List NamedRoute
with_entry new held = (if nat_lt (length held) 64 then held else drop 1 held) ++ new ∷ []

-- the entries once a connection of this peer is open, whose datagrams go to this destination or to the usual one
abbrev pub after_opening : Node → Option SocketAddress → Triad → ℕ → List NamedRoute → List NamedRoute
after_opening peer None triad id held = without_replaced peer triad id held
after_opening peer (Some to) triad id held = with_entry (record { peer = peer; triad = triad; id = id; to = to }) (without_replaced peer triad id held)

-- ---- at a target: of a reply to the peer

-- the port that a request has named, at the address of the peer
abbrev pub at_peer : Node → Option ℕ → Option SocketAddress
at_peer peer None = None
at_peer peer (Some port) = Some (record { port = port; address = peer })

-- the entries after a reply to this peer, whose request has named this port or none
abbrev pub after_reply : Node → Option ℕ → ReplyOutcome → List NamedRoute → List NamedRoute
after_reply peer named Nothing held = held
after_reply peer named (Closed triad) held = without_triad triad held
after_reply peer named (Opened triad o_t t_o) held = after_opening peer (at_peer peer named) triad t_o held

-- ---- at an originator: of a reply of the peer, and of a request to it

-- the entries after a reply of this peer, behind which it names this socket address or none
abbrev pub after_answer : Node → Option SocketAddress → ReplyOutcome → List NamedRoute → List NamedRoute
after_answer peer said (Opened triad o_t t_o) held = after_opening peer (option_map (at_host peer) said) triad o_t held
after_answer peer said other held = held

-- the entries after a request that asks to close the connection of this triad, if it does
abbrev pub without_closed : Option Triad → List NamedRoute → List NamedRoute
without_closed None held = held
without_closed (Some triad) held = without_triad triad held
