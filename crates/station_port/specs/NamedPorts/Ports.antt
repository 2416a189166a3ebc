-- What a port does with socket address items, and where a datagram goes: at a target always to the address of its node, at an
-- originator to the one that the reply has named.
use Rattle.std.specs.Prelude.{ℕ, ◌==◌, if◌then◌else◌, List, drop, find, Option, Some, None}
use Rattle.std.specs.Option.{option_map}
use Rattle.std.specs.Int.{w32}
use Rattle.cip_types.specs.Fields.{field_at}
use Rattle.cip_types.specs.declared.names.Node.{Node}
use Rattle.cip_encap.specs.declared.packet.SocketAddress.{SocketAddress}
use Rattle.station_port.specs.declared.named_ports.held.NamedRoute.{NamedRoute}
use Rattle.station_port.specs.declared.named_ports.named.NamedPort.{NamedPort}
use Rattle.station_port.specs.declared.named_ports.ports.RequestedPort.{RequestedPort}
use Rattle.station_port.specs.declared.named_ports.ports.ItemUse.{ItemUse}
use Rattle.station_port.specs.declared.named_ports.ports.ItemUse.TheVariants.{Unused, Named, Obeyed, Honoured}
use Rattle.station_port.specs.declared.named_ports.reply.ReplyOutcome.{ReplyOutcome}
use Rattle.station_port.specs.NamedPorts.Naming.{named_port}
use Rattle.station_port.specs.NamedPorts.Closing.{closed_triad}
use Rattle.station_port.specs.NamedPorts.Destinations.{named_destination}
use Rattle.station_port.specs.NamedPorts.Editing.{with_item, without_item}
use Rattle.station_port.specs.NamedPorts.Replies.{reply_outcome}
use Rattle.station_port.specs.NamedPorts.Held.{after_answer, after_reply, is_for, without_closed}

-- ---- a message arrives

abbrev pub shortened : List ℕ → Option NamedPort → Option (List ℕ)
shortened message None = None
shortened message (Some named) = Some (without_item message named.from_end)

-- the message that the device sees, if it is another one
abbrev pub seen_after : ItemUse → List ℕ → Option (List ℕ)
seen_after Honoured message = shortened message (named_port message)
seen_after other message = None

abbrev pub requested_of : ℕ → Option NamedPort → Option RequestedPort
requested_of stream None = None
requested_of stream (Some named) = Some (record { stream = stream; port = named.port })

-- the port that the last message has named
abbrev pub requested_after : ItemUse → ℕ → List ℕ → Option RequestedPort → Option RequestedPort
requested_after Honoured stream message requested = requested_of stream (named_port message)
requested_after other stream message requested = requested

-- the entries of an originator after a reply over the stream of a peer
abbrev pub received : Option Node → List ℕ → List NamedRoute → List NamedRoute
received None message held = held
received (Some peer) message held = after_answer peer (named_destination message) (reply_outcome message) held

abbrev pub received_after : ItemUse → Option Node → List ℕ → List NamedRoute → List NamedRoute
received_after (Named port) peer message held = received peer message held
received_after Obeyed peer message held = received peer message held
received_after other peer message held = held

-- ---- a message leaves

-- the message that is sent, if it is another one
abbrev pub sent_after : ItemUse → List ℕ → Option (List ℕ)
sent_after (Named port) message = with_item message port
sent_after other message = None

-- the port that was named over this stream
abbrev pub requested_on : ℕ → Option RequestedPort → Option ℕ
requested_on stream None = None
requested_on stream (Some requested) = if requested.stream == stream then Some requested.port else None

-- the entries of a target after a reply over the stream of a peer
abbrev pub learned : Option Node → Option ℕ → ReplyOutcome → List NamedRoute → List NamedRoute
learned None named outcome held = held
learned (Some peer) named outcome held = after_reply peer named outcome held

abbrev pub held_after : ItemUse → Option Node → Option ℕ → List ℕ → List NamedRoute → List NamedRoute
held_after Unused peer named message held = held
held_after (Named port) peer named message held = without_closed (closed_triad message) held
held_after Obeyed peer named message held = without_closed (closed_triad message) held
held_after Honoured peer named message held = learned peer named (reply_outcome message) held

-- ---- a datagram leaves

-- the connection id of a datagram is behind 6 bytes
abbrev pub datagram_id : List ℕ → Option ℕ
datagram_id datagram = option_map (λ found. found.0) (field_at w32 (drop 6 datagram))

abbrev pub route_or : SocketAddress → Option NamedRoute → SocketAddress
route_or usual None = usual
route_or usual (Some entry) = entry.to

abbrev pub route_of_id : List NamedRoute → Node → SocketAddress → Option ℕ → SocketAddress
route_of_id held node usual None = usual
route_of_id held node usual (Some id) = route_or usual (find (is_for node id) held)

-- the destination of a datagram to this node: the one that was named for its id, or else the node's address at the usual port
abbrev pub destination_for : List NamedRoute → Node → List ℕ → ℕ → SocketAddress
destination_for held node datagram usual = route_of_id held node (record { port = usual; address = node }) (datagram_id datagram)
