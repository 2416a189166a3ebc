-- The UDP port that a request to open a connection names for its T->O datagrams (Volume 1, chapter 3, Forward_Open
-- service; Volume 2, chapter 2, common packet format and socket address item).
--
-- A message of a stream, by the position of its bytes:
--
--   0    command        u16   0x006F
--   2    length         u16   of all that is behind the header
--   4    session, status, context, options
--   24   interface handle and time-out
--   30   item count     u16
--   32   null address item, and the head of the data item
--   40   the request; behind it items: type and length, and so many bytes. Those of a socket address are 16: family and port with their
--        most significant byte first, an address, and 8 zeros
use Rattle.std.specs.Prelude.{ℕ, zero, suc, ◌-◌, ◌==◌, ◌||◌, not, nat_lt, if◌then◌else◌, Bool, true, false, List, length, take, drop, Option, Some, None, Result, Ok, Err}
use Rattle.std.specs.Option.{option_map}
use Rattle.std.specs.Int.{w16, w32, from_be_bytes}
use Rattle.cip_types.specs.Parts.{number_in}
use Rattle.cip_netparams.specs.declared.ConnectionType.{ConnectionType}
use Rattle.cip_netparams.specs.declared.ConnectionType.TheVariants.{PointToPoint}
use Rattle.cip_encap.specs.declared.packet.ItemFault.{ItemFault}
use Rattle.cip_encap.specs.declared.packet.SocketAddress.{SocketAddress}
use Rattle.cip_encap.specs.declared.message.EncapFault.{EncapFault}
use Rattle.cip_encap.specs.Message.{MessageFields}
use Rattle.cip_encap.specs.Reading.{message_reading}
use Rattle.cip_encap.specs.Packet.{PacketFields}
use Rattle.cip_encap.specs.PacketReading.{packet_reading}
use Rattle.cip_encap.specs.AnyItems.{any_packet_reading, behind_item}
use Rattle.cip_router.specs.Requests.{RouterRequestFields, opening, router_request_reading}
use Rattle.station_port.specs.declared.named_ports.named.NamedPort.{NamedPort}

-- ---- the request

-- the datagrams go to one device alone
abbrev pub is_point_to_point : ConnectionType → Bool
is_point_to_point PointToPoint = true
is_point_to_point other = false

-- the request opens a connection whose T->O datagrams go to its originator alone
abbrev pub opens : RouterRequestFields → Bool
opens (opening large request) = is_point_to_point request.t_o_params.kind
opens other = false

abbrev pub is_opening : List ℕ → Bool
is_opening request = opens (router_request_reading request)

abbrev pub read_opening_len : Result PacketFields ItemFault → Option ℕ
read_opening_len (Err fault) = None
read_opening_len (Ok packet) = if is_opening packet.payload then Some (length packet.payload) else None

-- the bytes of the request among the items, if it opens such a connection
abbrev pub packet_opening_len : List ℕ → Option ℕ
packet_opening_len items = read_opening_len (packet_reading items)

abbrev pub message_opening_len : Result MessageFields EncapFault → Option ℕ
message_opening_len (Err fault) = None
message_opening_len (Ok message) = if message.command == 0x6F then packet_opening_len message.payload else None

-- the bytes of the request of a message, if it opens such a connection
abbrev pub opening_len : List ℕ → Option ℕ
opening_len message = message_opening_len (message_reading message)

-- the same of a message with items of any type behind its request, as a described device takes it
abbrev pub any_packet_opening_len : List ℕ → Option ℕ
any_packet_opening_len items = read_opening_len (any_packet_reading items)

abbrev pub any_message_opening_len : Result MessageFields EncapFault → Option ℕ
any_message_opening_len (Err fault) = None
any_message_opening_len (Ok message) = if message.command == 0x6F then any_packet_opening_len message.payload else None

abbrev pub any_opening_len : List ℕ → Option ℕ
any_opening_len message = any_message_opening_len (message_reading message)

-- ---- the item

-- the number at a position, its most significant byte first
abbrev pub be16_in : List ℕ → ℕ → ℕ
be16_in bytes at = from_be_bytes w16 (take 2 (drop at bytes))

abbrev pub be32_in : List ℕ → ℕ → ℕ
be32_in bytes at = from_be_bytes w32 (take 4 (drop at bytes))

-- the item is none of this direction, of the Internet's family and of a port that is not 0
abbrev pub names_none : ℕ → List ℕ → Bool
names_none kind item = not (number_in w16 item 0 == kind) || (not (be16_in item 4 == 2) || (be16_in item 6 == 0))

-- the socket address of the item at the front, if it is one of this direction
abbrev pub socket_in : ℕ → List ℕ → Option SocketAddress
socket_in kind items =
    if nat_lt (length items) 20 then None else if names_none kind items then None
    else Some (record { port = be16_in items 6; address = record { 0 = be32_in items 8 } })

-- the port that the item at the front names
abbrev pub port_in : List ℕ → Option ℕ
port_in items = option_map (λ socket. socket.port) (socket_in 0x8001 items)

-- the port of an item, from which on there are so many bytes
abbrev pub named_at : ℕ → Option ℕ → Option NamedPort
named_at from_end None = None
named_at from_end (Some port) = Some (record { from_end = from_end; port = port })

-- the port that the item at the front names, with the bytes from there on
abbrev pub named_first : List ℕ → Option NamedPort
named_first items = named_at (length items) (port_in items)

abbrev pub or_else : Option NamedPort → Option NamedPort → Option NamedPort
or_else None other = other
or_else (Some named) other = Some named

abbrev pub named_after : (List ℕ → Option NamedPort) → Option (List ℕ) → Option NamedPort
named_after among None = None
named_after among (Some rest) = among rest

-- the port that the first of so many items names which names one
unfoldable pub named_among : ℕ → List ℕ → Option NamedPort
named_among zero items = None
named_among (suc n) items = or_else (named_first items) (named_after (named_among n) (behind_item items))

-- the items behind the request are two fewer than all
abbrev pub named_behind : List ℕ → Option ℕ → Option NamedPort
named_behind message None = None
named_behind message (Some len) = named_among (number_in w16 message 30 - 2) (drop len (drop 40 message))

-- the port that a message of a stream names, whose 24 bytes of header are followed by at most 2,048
unfoldable pub named_port : List ℕ → Option NamedPort
named_port message = if nat_lt (length message) 64 || nat_lt 2072 (length message) then None else named_behind message (any_opening_len message)
