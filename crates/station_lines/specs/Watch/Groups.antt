-- The group of the T->O datagrams, as the reply to a Forward_Open names it
-- (Volume 2, chapter 2, common packet format; Volume 1, chapter 3, Forward_Open service).
use Rattle.std.specs.Prelude.{ℕ, ◌||◌, ◌==◌, not, nat_lt, if◌then◌else◌, Bool, List, length, take, drop, Option, Some, None, Result, Ok, Err}
use Rattle.std.specs.Int.{w16, w32, from_be_bytes}
use Rattle.cip_types.specs.Fields.{field_at, then_at}
use Rattle.cip_encap.specs.declared.packet.ItemFault.{ItemFault}
use Rattle.cip_encap.specs.declared.message.EncapFault.{EncapFault}
use Rattle.cip_encap.specs.Message.{MessageFields}
use Rattle.cip_encap.specs.Reading.{message_reading}
use Rattle.cip_encap.specs.Packet.{PacketFields}
use Rattle.cip_encap.specs.PacketReading.{packet_reading}
use Rattle.udp_runner.specs.Groups.GroupUse.{group_port, is_group}
use Rattle.udp_runner.specs.declared.groups.group.DataGroup.{DataGroup}
use Rattle.station_lines.specs.declared.watch.groups.SocketItem.{SocketItem}

-- the group that an item names, if its address is that of a group
abbrev pub as_group : SocketItem → Option DataGroup
as_group item = if is_group item.address then Some (record { address = item.address; port = group_port item.port }) else None

-- the bytes behind the head of an item are no socket address
abbrev pub not_socket : ℕ → List ℕ → Bool
not_socket len rest = not (len == 16) || nat_lt (length rest) 16

-- the item with what the bytes behind its head say: two bytes of family, two of port, then the address
abbrev pub socket_with : ℕ → ℕ → List ℕ → Option (SocketItem × List ℕ)
socket_with kind len rest =
    if not_socket len rest then None
    else Some (record { kind = kind; address = record { 0 = from_be_bytes w32 (take 4 (drop 2 (drop 2 rest))) }; port = from_be_bytes w16 (take 2 (drop 2 rest)) }, drop 8 (drop 4 (drop 2 (drop 2 rest))))

-- the socket address item at the front, and the bytes behind it
abbrev pub socket_at : List ℕ → Option (SocketItem × List ℕ)
socket_at bytes = then_at (field_at w16 bytes) (λ kind rest. then_at (field_at w16 rest) (λ len after. socket_with kind len after))

-- the group of an item that says where T->O datagrams go, or else what the others say
abbrev pub group_or : SocketItem → Option DataGroup → Option DataGroup
group_or item others = if item.kind == 0x8001 then as_group item else others

abbrev pub last_of : Option (SocketItem × List ℕ) → Option DataGroup
last_of None = None
last_of (Some found) = group_or found.0 None

-- the group that the last item names
abbrev pub last_group : List ℕ → Option DataGroup
last_group items = last_of (socket_at items)

abbrev pub group_of : Option (SocketItem × List ℕ) → Option DataGroup
group_of None = None
group_of (Some found) = group_or found.0 (last_group found.1)

-- the group that one of two items names
abbrev pub group_in : List ℕ → Option DataGroup
group_in items = group_of (socket_at items)

abbrev pub number_of : Option (ℕ × List ℕ) → Option ℕ
number_of None = None
number_of (Some found) = Some found.0

-- the 32 bits behind so many bytes
abbrev pub u32_behind : List ℕ → ℕ → Option ℕ
u32_behind bytes before = number_of (field_at w32 (drop before bytes))

-- other items are behind the reply, which 16 bytes precede
abbrev pub group_of_packet : List ℕ → Result PacketFields ItemFault → Option DataGroup
group_of_packet items (Err fault) = None
group_of_packet items (Ok packet) = group_in (drop (length packet.payload) (drop 16 items))

abbrev pub group_behind : List ℕ → Option DataGroup
group_behind items = group_of_packet items (packet_reading items)

abbrev pub group_of_message : Result MessageFields EncapFault → Option DataGroup
group_of_message (Err fault) = None
group_of_message (Ok message) = group_behind message.payload

-- the group that the reply names which opened a connection
abbrev pub opened_group : List ℕ → Option DataGroup
opened_group bytes = group_of_message (message_reading bytes)
