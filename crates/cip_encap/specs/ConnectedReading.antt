-- The reading of bytes as the items of a connected message, as a function. `Connected` has it as a relation (Volume 2,
-- chapter 2, common packet format).
use Rattle.std.specs.Prelude.{ℕ, ◌-◌, Bool, ◌==◌, ◌&&◌, nat_le, if◌then◌else◌, List, [], ◌∷◌, length, take, drop, Option, Some, None, Result, Ok, Err}
use Rattle.cip_types.specs.Fields.{fields_at}
use Rattle.cip_types.specs.Texts.{Tailed}
use Rattle.cip_encap.specs.declared.packet.ItemFault.{ItemFault}
use Rattle.cip_encap.specs.declared.packet.ItemFault.TheVariants.{Bad}
use Rattle.cip_encap.specs.PacketReading.{are_sockets}
use Rattle.cip_encap.specs.Connected.{ConnectedFields, connected_widths}

-- a connected address item and a connected data item with a sequence count, of this number of items
abbrev pub are_connected_heads : (interface items address address_len kind len : ℕ) → Bool
are_connected_heads interface items address address_len kind len = (interface == 0) && nat_le 2 items && (address == 0xA1) && (address_len == 4) && (kind == 0xB1) && nat_le 2 len

-- The reading of the numbers before the message and the bytes after them. The last length counts the sequence count
-- and the message. The timeout is not judged.
abbrev pub connected_parts : List ℕ → List ℕ → Result ConnectedFields ItemFault
connected_parts (interface ∷ seconds ∷ items ∷ address ∷ address_len ∷ connection ∷ kind ∷ len ∷ count ∷ []) rest =
    if are_connected_heads interface items address address_len kind len && nat_le (len - 2) (length rest) && are_sockets (items - 2) (drop (len - 2) rest)
    then Ok (record { connection = connection; count = count; message = take (len - 2) rest })
    else Err Bad
connected_parts _ rest = Err Bad

abbrev pub connected_found : Option Tailed → Result ConnectedFields ItemFault
connected_found None = Err Bad
connected_found (Some p) = connected_parts p.0 p.1

-- the reading of bytes as the items of a connected message
unfoldable pub connected_reading : List ℕ → Result ConnectedFields ItemFault
connected_reading bytes = connected_found (fields_at connected_widths bytes)
