-- The items around a request or a message, and behind its data items of any type, which are skipped: nobody knows them, but for
-- socket addresses, which have 16 bytes (Volume 2, chapter 2, common packet format).
--
--   type      u16
--   length    u16   of the bytes; 16 of types 0x8000 and 0x8001
--   bytes
use Rattle.std.specs.Prelude.{ℕ, zero, suc, ◌-◌, Bool, ◌==◌, ◌&&◌, ◌||◌, not, nat_le, if◌then◌else◌, List, [], ◌∷◌, length, take, drop, Option, Some, None, Result, Ok, Err}
use Rattle.cip_types.specs.Fields.{fields_at}
use Rattle.cip_types.specs.Texts.{Tailed}
use Rattle.cip_encap.specs.declared.packet.ItemFault.{ItemFault}
use Rattle.cip_encap.specs.declared.packet.ItemFault.TheVariants.{Bad}
use Rattle.cip_encap.specs.Connected.{ConnectedFields, connected_widths}
use Rattle.cip_encap.specs.ConnectedReading.{are_connected_heads}
use Rattle.cip_encap.specs.Packet.{PacketFields, packet_widths}
use Rattle.cip_encap.specs.PacketReading.{socket_widths, passes, are_heads}

-- ---- one item

-- the type is that of a socket address
abbrev pub is_socket_kind : ℕ → Bool
is_socket_kind kind = (kind == 0x8000) || (kind == 0x8001)

-- an item, by its numbers and the bytes after them: all of its bytes are there, and a socket address has 16
abbrev pub is_item : ℕ → ℕ → List ℕ → Bool
is_item kind len rest = nat_le len (length rest) && (not (is_socket_kind kind) || len == 16)

-- the bytes after the item
abbrev pub item_parts : List ℕ → List ℕ → Option (List ℕ)
item_parts (kind ∷ len ∷ []) rest = if is_item kind len rest then Some (drop len rest) else None
item_parts _ rest = None

abbrev pub item_found : Option Tailed → Option (List ℕ)
item_found None = None
item_found (Some p) = item_parts p.0 p.1

-- the bytes after the item at the front
unfoldable pub behind_item : List ℕ → Option (List ℕ)
behind_item bytes = item_found (fields_at socket_widths bytes)

-- the bytes are this number of items
unfoldable pub are_items : ℕ → List ℕ → Bool
are_items zero bytes = length bytes == 0
are_items (suc n) bytes = passes (are_items n) (behind_item bytes)

-- ---- all of them

-- the reading of the numbers before the data of an explicit request and the bytes after them
abbrev pub any_parts : List ℕ → List ℕ → Result PacketFields ItemFault
any_parts (interface ∷ timeout ∷ count ∷ address ∷ address_len ∷ kind ∷ len ∷ []) rest =
    if are_heads interface count address address_len kind len && nat_le len (length rest) && are_items (count - 2) (drop len rest)
    then Ok (record { timeout = timeout; payload = take len rest })
    else Err Bad
any_parts _ rest = Err Bad

abbrev pub any_found : Option Tailed → Result PacketFields ItemFault
any_found None = Err Bad
any_found (Some p) = any_parts p.0 p.1

-- the reading of bytes as the items of an explicit request, and others behind them
unfoldable pub any_packet_reading : List ℕ → Result PacketFields ItemFault
any_packet_reading bytes = any_found (fields_at packet_widths bytes)

-- the reading of the numbers before a connected message and the bytes after them
abbrev pub any_connected_parts : List ℕ → List ℕ → Result ConnectedFields ItemFault
any_connected_parts (interface ∷ seconds ∷ items ∷ address ∷ address_len ∷ connection ∷ kind ∷ len ∷ count ∷ []) rest =
    if are_connected_heads interface items address address_len kind len && nat_le (len - 2) (length rest) && are_items (items - 2) (drop (len - 2) rest)
    then Ok (record { connection = connection; count = count; message = take (len - 2) rest })
    else Err Bad
any_connected_parts _ rest = Err Bad

abbrev pub any_connected_found : Option Tailed → Result ConnectedFields ItemFault
any_connected_found None = Err Bad
any_connected_found (Some p) = any_connected_parts p.0 p.1

-- the reading of bytes as the items of a connected message, and others behind them
unfoldable pub any_connected_reading : List ℕ → Result ConnectedFields ItemFault
any_connected_reading bytes = any_connected_found (fields_at connected_widths bytes)
