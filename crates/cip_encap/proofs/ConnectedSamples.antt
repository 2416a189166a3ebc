-- What worked connected messages say.
use Rattle.std.proofs.Common.{◌≡◌, ℕ, List, [], ◌∷◌, ◌++◌, take, Ok, Err, refl}
use Rattle.cip_encap.specs.declared.packet.ItemFault.TheVariants.{Bad}
use Rattle.cip_encap.specs.Reading.{message_reading}
use Rattle.cip_encap.specs.Connected.{connected_text}
use Rattle.cip_encap.specs.PacketReading.{behind_socket, are_sockets, packet_reading}
use Rattle.cip_encap.specs.ConnectedReading.{connected_reading}

-- Get_Attribute_Single of the Identity object's name: class 1, instance 1, attribute 7
abbrev get_name : List ℕ
get_name = 0x0E ∷ 3 ∷ 0x20 ∷ 1 ∷ 0x24 ∷ 1 ∷ 0x30 ∷ 7 ∷ []

-- what stands in front of it: so many items, the connection id 0x1002_0304, a connected data item of this length, and
-- the sequence count 0x0105
abbrev front : (items len : ℕ) → List ℕ
front items len = 0 ∷ 0 ∷ 0 ∷ 0 ∷ 0 ∷ 0 ∷ items ∷ 0 ∷ 0xA1 ∷ 0 ∷ 4 ∷ 0 ∷ 4 ∷ 3 ∷ 2 ∷ 0x10 ∷ 0xB1 ∷ 0 ∷ len ∷ 0 ∷ 5 ∷ 1 ∷ []

-- the whole message: command SendUnitData, 30 bytes of data, session 0x1122_3344
abbrev unit_bytes : List ℕ
unit_bytes = (0x70 ∷ 0 ∷ 0x1E ∷ 0 ∷ 0x44 ∷ 0x33 ∷ 0x22 ∷ 0x11 ∷ 0 ∷ 0 ∷ 0 ∷ 0 ∷ 0 ∷ 0 ∷ 0 ∷ 0 ∷ 0 ∷ 0 ∷ 0 ∷ 0 ∷ 0 ∷ 0 ∷ 0 ∷ 0 ∷ []) ++ (front 2 10 ++ get_name)

pub unit_read : message_reading unit_bytes ≡ Ok (record { command = 0x70; session = 0x1122_3344; status = 0; context = 0; options = 0; payload = front 2 10 ++ get_name })
unfolding message_reading
unit_read = refl

pub request_read : connected_reading (front 2 10 ++ get_name) ≡ Ok (record { connection = 0x1002_0304; count = 0x0105; message = get_name })
unfolding connected_reading are_sockets behind_socket
request_read = refl

-- its reply, the name `eip`, with the same count
pub reply_written : connected_text 0xA0B0_C0D0 0x0105 (0x8E ∷ 0 ∷ 0 ∷ 0 ∷ 3 ∷ 0x65 ∷ 0x69 ∷ 0x70 ∷ [])
    ≡ 0 ∷ 0 ∷ 0 ∷ 0 ∷ 0 ∷ 0 ∷ 2 ∷ 0 ∷ 0xA1 ∷ 0 ∷ 4 ∷ 0 ∷ 0xD0 ∷ 0xC0 ∷ 0xB0 ∷ 0xA0 ∷ 0xB1 ∷ 0 ∷ 10 ∷ 0 ∷ 5 ∷ 1 ∷ 0x8E ∷ 0 ∷ 0 ∷ 0 ∷ 3 ∷ 0x65 ∷ 0x69 ∷ 0x70 ∷ []
reply_written = refl

-- a message may have no byte
pub empty_read : connected_reading (front 2 2) ≡ Ok (record { connection = 0x1002_0304; count = 0x0105; message = [] })
unfolding connected_reading are_sockets behind_socket
empty_read = refl

pub empty_written : connected_text 0x1002_0304 0x0105 [] ≡ front 2 2
empty_written = refl

-- the data item has no room for a sequence count
pub no_count : connected_reading (front 2 1) ≡ Err Bad
unfolding connected_reading are_sockets behind_socket
no_count = refl

pub header_cut : connected_reading (take 21 (front 2 2)) ≡ Err Bad
unfolding connected_reading are_sockets behind_socket
header_cut = refl

pub message_cut : connected_reading (front 2 10 ++ take 7 get_name) ≡ Err Bad
unfolding connected_reading are_sockets behind_socket
message_cut = refl

pub a_byte_behind : connected_reading (front 2 10 ++ (get_name ++ 0 ∷ [])) ≡ Err Bad
unfolding connected_reading are_sockets behind_socket
a_byte_behind = refl

-- an O->T socket address item may follow: 192.168.1.10, port 2222
abbrev socket : List ℕ
socket = 0 ∷ 0x80 ∷ 0x10 ∷ 0 ∷ 0 ∷ 2 ∷ 0x08 ∷ 0xAE ∷ 0xC0 ∷ 0xA8 ∷ 0x01 ∷ 0x0A ∷ 0 ∷ 0 ∷ 0 ∷ 0 ∷ 0 ∷ 0 ∷ 0 ∷ 0 ∷ []

pub socket_dropped : connected_reading (front 3 10 ++ (get_name ++ socket)) ≡ Ok (record { connection = 0x1002_0304; count = 0x0105; message = get_name })
unfolding connected_reading are_sockets behind_socket
socket_dropped = refl

pub socket_missing : connected_reading (front 3 10 ++ get_name) ≡ Err Bad
unfolding connected_reading are_sockets behind_socket
socket_missing = refl

pub socket_not_counted : connected_reading (front 2 10 ++ (get_name ++ socket)) ≡ Err Bad
unfolding connected_reading are_sockets behind_socket
socket_not_counted = refl

pub one_item : connected_reading (front 1 10 ++ get_name) ≡ Err Bad
unfolding connected_reading are_sockets behind_socket
one_item = refl

-- a timeout is not judged, and an interface handle is
pub with_a_timeout : connected_reading (0 ∷ 0 ∷ 0 ∷ 0 ∷ 2 ∷ 1 ∷ 2 ∷ 0 ∷ 0xA1 ∷ 0 ∷ 4 ∷ 0 ∷ 9 ∷ 0 ∷ 0 ∷ 0 ∷ 0xB1 ∷ 0 ∷ 3 ∷ 0 ∷ 0xFF ∷ 0xFF ∷ 7 ∷ []) ≡ Ok (record { connection = 9; count = 0xFFFF; message = 7 ∷ [] })
unfolding connected_reading are_sockets behind_socket
with_a_timeout = refl

pub with_an_interface : connected_reading (1 ∷ 0 ∷ 0 ∷ 0 ∷ 0 ∷ 0 ∷ 2 ∷ 0 ∷ 0xA1 ∷ 0 ∷ 4 ∷ 0 ∷ 9 ∷ 0 ∷ 0 ∷ 0 ∷ 0xB1 ∷ 0 ∷ 3 ∷ 0 ∷ 1 ∷ 0 ∷ 7 ∷ []) ≡ Err Bad
unfolding connected_reading are_sockets behind_socket
with_an_interface = refl

-- an address item of another length, and items of other types
pub short_address : connected_reading (0 ∷ 0 ∷ 0 ∷ 0 ∷ 0 ∷ 0 ∷ 2 ∷ 0 ∷ 0xA1 ∷ 0 ∷ 2 ∷ 0 ∷ 9 ∷ 0 ∷ 0 ∷ 0 ∷ 0xB1 ∷ 0 ∷ 3 ∷ 0 ∷ 1 ∷ 0 ∷ 7 ∷ []) ≡ Err Bad
unfolding connected_reading are_sockets behind_socket
short_address = refl

pub sequenced_address : connected_reading (0 ∷ 0 ∷ 0 ∷ 0 ∷ 0 ∷ 0 ∷ 2 ∷ 0 ∷ 2 ∷ 0x80 ∷ 4 ∷ 0 ∷ 9 ∷ 0 ∷ 0 ∷ 0 ∷ 0xB1 ∷ 0 ∷ 3 ∷ 0 ∷ 1 ∷ 0 ∷ 7 ∷ []) ≡ Err Bad
unfolding connected_reading are_sockets behind_socket
sequenced_address = refl

pub unconnected_data : connected_reading (0 ∷ 0 ∷ 0 ∷ 0 ∷ 0 ∷ 0 ∷ 2 ∷ 0 ∷ 0xA1 ∷ 0 ∷ 4 ∷ 0 ∷ 9 ∷ 0 ∷ 0 ∷ 0 ∷ 0xB2 ∷ 0 ∷ 3 ∷ 0 ∷ 1 ∷ 0 ∷ 7 ∷ []) ≡ Err Bad
unfolding connected_reading are_sockets behind_socket
unconnected_data = refl

-- a connected message is no unconnected one
pub not_unconnected : packet_reading (front 2 10 ++ get_name) ≡ Err Bad
unfolding packet_reading are_sockets behind_socket
not_unconnected = refl
