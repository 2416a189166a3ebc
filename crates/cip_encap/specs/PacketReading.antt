-- The reading of bytes as the items of an explicit request or reply, as a function. `Packet` has it as a
-- relation (Volume 2, chapter 2, common packet format).
use Rattle.std.specs.Prelude.{ℕ, zero, suc, ◌-◌, Bool, false, ◌==◌, ◌&&◌, ◌||◌, nat_le, if◌then◌else◌, List, [], ◌∷◌, length, take, drop, Option, Some, None, Result, Ok, Err}
use Rattle.std.specs.Int.{Width, w16}
use Rattle.cip_types.specs.Fields.{fields_at}
use Rattle.cip_types.specs.Texts.{Tailed}
use Rattle.cip_encap.specs.declared.packet.ItemFault.{ItemFault}
use Rattle.cip_encap.specs.declared.packet.ItemFault.TheVariants.{Bad}
use Rattle.cip_encap.specs.Packet.{PacketFields, packet_widths}

-- ---- socket address items

-- type and length
abbrev pub socket_widths : List Width
socket_widths = w16 ∷ w16 ∷ []

-- a socket address item, by its numbers and the bytes after them
abbrev pub is_socket : ℕ → ℕ → List ℕ → Bool
is_socket kind len rest = ((kind == 0x8000) || (kind == 0x8001)) && (len == 16) && nat_le 16 (length rest)

-- the bytes after the item
abbrev pub socket_parts : List ℕ → List ℕ → Option (List ℕ)
socket_parts (kind ∷ len ∷ []) rest = if is_socket kind len rest then Some (drop 16 rest) else None
socket_parts _ rest = None

abbrev pub socket_found : Option Tailed → Option (List ℕ)
socket_found None = None
socket_found (Some p) = socket_parts p.0 p.1

-- the bytes after the socket address item at the front
unfoldable pub behind_socket : List ℕ → Option (List ℕ)
behind_socket bytes = socket_found (fields_at socket_widths bytes)

-- the test of what is there
abbrev pub passes : (List ℕ → Bool) → Option (List ℕ) → Bool
passes test None = false
passes test (Some rest) = test rest

-- the bytes are this number of socket address items
unfoldable pub are_sockets : ℕ → List ℕ → Bool
are_sockets zero bytes = length bytes == 0
are_sockets (suc n) bytes = passes (are_sockets n) (behind_socket bytes)

-- ---- all items

-- a null address item and an unconnected data item with data, of this number of items
abbrev pub are_heads : ℕ → ℕ → ℕ → ℕ → ℕ → ℕ → Bool
are_heads interface count address address_len kind len = (interface == 0) && nat_le 2 count && (address == 0) && (address_len == 0) && (kind == 0xB2) && nat_le 1 len

-- the reading of the numbers before the data and the bytes after them
abbrev pub parts_reading : List ℕ → List ℕ → Result PacketFields ItemFault
parts_reading (interface ∷ timeout ∷ count ∷ address ∷ address_len ∷ kind ∷ len ∷ []) rest =
    if are_heads interface count address address_len kind len && nat_le len (length rest) && are_sockets (count - 2) (drop len rest)
    then Ok (record { timeout = timeout; payload = take len rest })
    else Err Bad
parts_reading _ rest = Err Bad

abbrev pub found_reading : Option Tailed → Result PacketFields ItemFault
found_reading None = Err Bad
found_reading (Some p) = parts_reading p.0 p.1

-- the reading of bytes as items
unfoldable pub packet_reading : List ℕ → Result PacketFields ItemFault
packet_reading bytes = found_reading (fields_at packet_widths bytes)
