-- Where the reply to a request to open a connection has its O->T datagrams sent (Volume 2, chapter 2, common packet format and socket
-- address item). `Naming` has the positions of the bytes; the reply stands in the place of the request.
use Rattle.std.specs.Prelude.{ℕ, ◌==◌, ◌&&◌, not, nat_lt, if◌then◌else◌, Bool, List, length, drop, Option, Some, None, Result, Ok, Err}
use Rattle.cip_types.specs.declared.names.Node.{Node}
use Rattle.cip_encap.specs.declared.packet.ItemFault.{ItemFault}
use Rattle.cip_encap.specs.declared.packet.SocketAddress.{SocketAddress}
use Rattle.cip_encap.specs.declared.message.EncapFault.{EncapFault}
use Rattle.cip_encap.specs.Message.{MessageFields}
use Rattle.cip_encap.specs.Reading.{message_reading}
use Rattle.cip_encap.specs.Packet.{PacketFields}
use Rattle.cip_encap.specs.PacketReading.{packet_reading}
use Rattle.station_port.specs.NamedPorts.Naming.{socket_in}

abbrev pub socket_or : Option SocketAddress → Option SocketAddress → Option SocketAddress
socket_or None other = other
socket_or (Some socket) other = Some socket

-- the socket address of the first of two items that is one of the O->T direction
abbrev pub destination_in : List ℕ → Option SocketAddress
destination_in items = socket_or (socket_in 0x8000 items) (socket_in 0x8000 (drop 20 items))

abbrev pub read_destination : List ℕ → Result PacketFields ItemFault → Option SocketAddress
read_destination items (Err fault) = None
read_destination items (Ok packet) = destination_in (drop (length packet.payload) (drop 16 items))

-- the socket address that the items behind a reply name
abbrev pub packet_destination : List ℕ → Option SocketAddress
packet_destination items = read_destination items (packet_reading items)

abbrev pub message_destination : Result MessageFields EncapFault → Option SocketAddress
message_destination (Err fault) = None
message_destination (Ok message) = if message.command == 0x6F then packet_destination message.payload else None

-- the socket address that a message of a stream names for O->T datagrams
unfoldable pub named_destination : List ℕ → Option SocketAddress
named_destination message = message_destination (message_reading message)

-- the address may be that of a host: it is not 0.0.0.0, nor 224.0.0.0 (the first group) or one behind it
abbrev pub is_host : Node → Bool
is_host address = not (address.0 == 0) && nat_lt address.0 0xE0000000

-- the destination that a reply of the peer names: an item without the address of a host means the peer's
abbrev pub at_host : Node → SocketAddress → SocketAddress
at_host peer said = if is_host said.address then said else record { port = said.port; address = peer }
