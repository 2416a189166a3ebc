-- What worked items say, of which nobody knows the last one.
use Rattle.std.proofs.Common.{◌≡◌, ℕ, List, [], ◌∷◌, ◌++◌, Ok, Err, refl}
use Rattle.cip_encap.specs.declared.packet.ItemFault.TheVariants.{Bad}
use Rattle.cip_encap.specs.PacketReading.{behind_socket, are_sockets, packet_reading}
use Rattle.cip_encap.specs.AnyItems.{behind_item, are_items, any_packet_reading, any_connected_reading}

-- Get_Attribute_Single of the Identity object's vendor: class 1, instance 1, attribute 1
abbrev get_vendor : List ℕ
get_vendor = 0x0E ∷ 3 ∷ 0x20 ∷ 1 ∷ 0x24 ∷ 1 ∷ 0x30 ∷ 1 ∷ []

-- so many items: a null address, and the request
abbrev front : (items : ℕ) → List ℕ
front items = 0 ∷ 0 ∷ 0 ∷ 0 ∷ 5 ∷ 0 ∷ items ∷ 0 ∷ 0 ∷ 0 ∷ 0 ∷ 0 ∷ 0xB2 ∷ 0 ∷ 8 ∷ 0 ∷ get_vendor

-- so many items: the address of connection 0x1002_0304, and the request with the count 5
abbrev connected_front : (items : ℕ) → List ℕ
connected_front items = 0 ∷ 0 ∷ 0 ∷ 0 ∷ 0 ∷ 0 ∷ items ∷ 0 ∷ 0xA1 ∷ 0 ∷ 4 ∷ 0 ∷ 4 ∷ 3 ∷ 2 ∷ 0x10 ∷ 0xB1 ∷ 0 ∷ 10 ∷ 0 ∷ 5 ∷ 0 ∷ get_vendor

-- an item of type 0x1234 with the bytes `abc`
abbrev unknown : List ℕ
unknown = 0x34 ∷ 0x12 ∷ 3 ∷ 0 ∷ 0x61 ∷ 0x62 ∷ 0x63 ∷ []

-- one of no byte
abbrev bare : List ℕ
bare = 0x34 ∷ 0x12 ∷ 0 ∷ 0 ∷ []

-- a socket address of 15 bytes
abbrev short_socket : List ℕ
short_socket = 0 ∷ 0x80 ∷ 15 ∷ 0 ∷ 0 ∷ 2 ∷ 8 ∷ 0xAE ∷ 0xC0 ∷ 0xA8 ∷ 1 ∷ 10 ∷ 0 ∷ 0 ∷ 0 ∷ 0 ∷ 0 ∷ 0 ∷ 0 ∷ []

pub unknown_skipped : any_packet_reading (front 3 ++ unknown) ≡ Ok (record { timeout = 5; payload = get_vendor })
unfolding any_packet_reading are_items behind_item
unknown_skipped = refl

pub bare_skipped : any_packet_reading (front 4 ++ (bare ++ unknown)) ≡ Ok (record { timeout = 5; payload = get_vendor })
unfolding any_packet_reading are_items behind_item
bare_skipped = refl

-- without one it is read as by every device, which refuses an unknown one
pub two_read : any_packet_reading (front 2) ≡ Ok (record { timeout = 5; payload = get_vendor })
unfolding any_packet_reading are_items behind_item
two_read = refl

pub unknown_refused : packet_reading (front 3 ++ unknown) ≡ Err Bad
unfolding packet_reading are_sockets behind_socket
unknown_refused = refl

pub unknown_cut : any_packet_reading (front 3 ++ (0x34 ∷ 0x12 ∷ 4 ∷ 0 ∷ 0x61 ∷ 0x62 ∷ 0x63 ∷ [])) ≡ Err Bad
unfolding any_packet_reading are_items behind_item
unknown_cut = refl

pub socket_cut : any_packet_reading (front 3 ++ short_socket) ≡ Err Bad
unfolding any_packet_reading are_items behind_item
socket_cut = refl

pub not_counted : any_packet_reading (front 2 ++ unknown) ≡ Err Bad
unfolding any_packet_reading are_items behind_item
not_counted = refl

pub connected_skipped : any_connected_reading (connected_front 3 ++ unknown) ≡ Ok (record { connection = 0x1002_0304; count = 5; message = get_vendor })
unfolding any_connected_reading are_items behind_item
connected_skipped = refl

pub connected_cut : any_connected_reading (connected_front 3 ++ (0x34 ∷ 0x12 ∷ [])) ≡ Err Bad
unfolding any_connected_reading are_items behind_item
connected_cut = refl
