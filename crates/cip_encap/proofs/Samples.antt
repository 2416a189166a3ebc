-- What worked messages and items say.
use Rattle.std.proofs.Common.{◌≡◌, ℕ, List, [], ◌∷◌, ◌++◌, take, Some, None, Ok, Err, refl}
use Rattle.cip_types.specs.Fields.{fields_at}
use Rattle.cip_encap.specs.declared.message.EncapFault.TheVariants.{Truncated, Trailing}
use Rattle.cip_encap.specs.declared.packet.ItemFault.TheVariants.{Bad}
use Rattle.cip_encap.specs.declared.packet.SocketAddress.{SocketAddress}
use Rattle.cip_encap.specs.Message.{MessageFields, header_widths, message_text}
use Rattle.cip_encap.specs.Reading.{message_reading}
use Rattle.cip_encap.specs.Packet.{packet_text}
use Rattle.cip_encap.specs.PacketReading.{behind_socket, are_sockets, packet_reading}

-- ---- messages

-- a request to register a session
abbrev register_bytes : List ℕ
register_bytes = 0x65 ∷ 0 ∷ 4 ∷ 0 ∷ 0 ∷ 0 ∷ 0 ∷ 0 ∷ 0 ∷ 0 ∷ 0 ∷ 0 ∷ 1 ∷ 2 ∷ 3 ∷ 4 ∷ 5 ∷ 6 ∷ 7 ∷ 8 ∷ 0 ∷ 0 ∷ 0 ∷ 0 ∷ 1 ∷ 0 ∷ 0 ∷ 0 ∷ []

abbrev registering : MessageFields
registering = record { command = 0x65; session = 0; status = 0; context = 0x0807_0605_0403_0201; options = 0; payload = 1 ∷ 0 ∷ 0 ∷ 0 ∷ [] }

-- no two fields alike
abbrev mixed_bytes : List ℕ
mixed_bytes = 0x6F ∷ 0 ∷ 2 ∷ 0 ∷ 0x44 ∷ 0x33 ∷ 0x22 ∷ 0x11 ∷ 0x88 ∷ 0x77 ∷ 0x66 ∷ 0x55 ∷ 1 ∷ 2 ∷ 3 ∷ 4 ∷ 5 ∷ 6 ∷ 7 ∷ 8 ∷ 0xCC ∷ 0xBB ∷ 0xAA ∷ 0x99 ∷ 0xFE ∷ 0xED ∷ []

abbrev mixed : MessageFields
mixed = record { command = 0x6F; session = 0x1122_3344; status = 0x5566_7788; context = 0x0807_0605_0403_0201; options = 0x99AA_BBCC; payload = 0xFE ∷ 0xED ∷ [] }

pub register_read : message_reading register_bytes ≡ Ok registering
unfolding message_reading
register_read = refl

pub register_written : message_text registering ≡ register_bytes
register_written = refl

pub mixed_read : message_reading mixed_bytes ≡ Ok mixed
unfolding message_reading
mixed_read = refl

pub mixed_written : message_text mixed ≡ mixed_bytes
mixed_written = refl

pub no_message : message_reading [] ≡ Err Truncated
unfolding message_reading
no_message = refl

pub within_the_header : message_reading (take 23 register_bytes) ≡ Err Truncated
unfolding message_reading
within_the_header = refl

pub without_data : message_reading (take 24 register_bytes) ≡ Err Truncated
unfolding message_reading
without_data = refl

pub within_the_data : message_reading (take 27 register_bytes) ≡ Err Truncated
unfolding message_reading
within_the_data = refl

pub a_byte_behind : message_reading (register_bytes ++ 0 ∷ []) ≡ Err Trailing
unfolding message_reading
a_byte_behind = refl

-- a header says what it says, though its length is wrong
pub header_read : fields_at header_widths (take 27 register_bytes) ≡ Some (0x65 ∷ 4 ∷ 0 ∷ 0 ∷ 0x0807_0605_0403_0201 ∷ 0 ∷ [], 1 ∷ 0 ∷ 0 ∷ [])
header_read = refl

pub no_header : fields_at header_widths (take 23 register_bytes) ≡ None
no_header = refl

-- ---- items

-- the reply to a Forward_Open
abbrev reply : List ℕ
reply = 0xD4 ∷ 0 ∷ 0 ∷ 0 ∷ 1 ∷ 0 ∷ 0 ∷ 0x10 ∷ 2 ∷ 0 ∷ 0 ∷ 0x10 ∷ 5 ∷ 0 ∷ 0x34 ∷ 0x12 ∷ 0x78 ∷ 0x56 ∷ 0x34 ∷ 0x12 ∷ 0x10 ∷ 0x27 ∷ 0 ∷ 0 ∷ 0x10 ∷ 0x27 ∷ 0 ∷ 0 ∷ 0 ∷ 0 ∷ []

-- what stands in front of it, among so many items
abbrev front : ℕ → List ℕ
front items = 0 ∷ 0 ∷ 0 ∷ 0 ∷ 0 ∷ 0 ∷ items ∷ 0 ∷ 0 ∷ 0 ∷ 0 ∷ 0 ∷ 0xB2 ∷ 0 ∷ 0x1E ∷ 0 ∷ []

-- 239.192.2.32, port 2222
abbrev group : SocketAddress
group = record { port = 2222; address = record { 0 = 0xEFC0_0220 } }

abbrev group_item : List ℕ
group_item = 0x01 ∷ 0x80 ∷ 0x10 ∷ 0 ∷ 0 ∷ 2 ∷ 0x08 ∷ 0xAE ∷ 0xEF ∷ 0xC0 ∷ 0x02 ∷ 0x20 ∷ 0 ∷ 0 ∷ 0 ∷ 0 ∷ 0 ∷ 0 ∷ 0 ∷ 0 ∷ []

pub two_items_read : packet_reading (front 2 ++ reply) ≡ Ok (record { timeout = 0; payload = reply })
unfolding packet_reading are_sockets behind_socket
two_items_read = refl

pub three_items_read : packet_reading (front 3 ++ (reply ++ group_item)) ≡ Ok (record { timeout = 0; payload = reply })
unfolding packet_reading are_sockets behind_socket
three_items_read = refl

pub items_written : packet_text reply (Some group) ≡ front 3 ++ (reply ++ group_item)
items_written = refl

pub bare_items_written : packet_text (7 ∷ []) None ≡ 0 ∷ 0 ∷ 0 ∷ 0 ∷ 0 ∷ 0 ∷ 2 ∷ 0 ∷ 0 ∷ 0 ∷ 0 ∷ 0 ∷ 0xB2 ∷ 0 ∷ 1 ∷ 0 ∷ 7 ∷ []
bare_items_written = refl

pub item_cut : packet_reading (front 3 ++ (reply ++ take 19 group_item)) ≡ Err Bad
unfolding packet_reading are_sockets behind_socket
item_cut = refl

pub item_missing : packet_reading (front 3 ++ reply) ≡ Err Bad
unfolding packet_reading are_sockets behind_socket
item_missing = refl

pub item_not_counted : packet_reading (front 2 ++ (reply ++ group_item)) ≡ Err Bad
unfolding packet_reading are_sockets behind_socket
item_not_counted = refl

pub one_item : packet_reading (front 1 ++ reply) ≡ Err Bad
unfolding packet_reading are_sockets behind_socket
one_item = refl

pub no_data : packet_reading (0 ∷ 0 ∷ 0 ∷ 0 ∷ 0 ∷ 0 ∷ 2 ∷ 0 ∷ 0 ∷ 0 ∷ 0 ∷ 0 ∷ 0xB2 ∷ 0 ∷ 0 ∷ 0 ∷ []) ≡ Err Bad
unfolding packet_reading are_sockets behind_socket
no_data = refl

pub other_data_item : packet_reading (0 ∷ 0 ∷ 0 ∷ 0 ∷ 0 ∷ 0 ∷ 2 ∷ 0 ∷ 0 ∷ 0 ∷ 0 ∷ 0 ∷ 0xB1 ∷ 0 ∷ 1 ∷ 0 ∷ 7 ∷ []) ≡ Err Bad
unfolding packet_reading are_sockets behind_socket
other_data_item = refl

pub with_a_timeout : packet_reading (0 ∷ 0 ∷ 0 ∷ 0 ∷ 2 ∷ 1 ∷ 2 ∷ 0 ∷ 0 ∷ 0 ∷ 0 ∷ 0 ∷ 0xB2 ∷ 0 ∷ 1 ∷ 0 ∷ 7 ∷ []) ≡ Ok (record { timeout = 0x0102; payload = 7 ∷ [] })
unfolding packet_reading are_sockets behind_socket
with_a_timeout = refl
