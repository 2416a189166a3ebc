-- The reading of an identity item (Volume 2, chapter 2, ListIdentity). Each part has its place in the data of the reply:
--
--   0, 2, 4, 6     u16    number of items (1), type (000C), length of what follows, protocol version (1)
--   8, 10          u16    family (2) and port, most significant byte first
--   12             u32    address, most significant byte first
--   16                    8 bytes, which are not judged
--   24, 26, 28     u16    vendor, device type, product
--   30, 31         u8     revision
--   32             u16    status
--   34             u32    serial number
--   38             u8     length of the name
--   39                    the name, and a byte for the state
use Rattle.std.specs.Prelude.{ℕ, ◌+◌, ◌==◌, ◌&&◌, nat_lt, if◌then◌else◌, Bool, List, length, take, drop, slice_index, Result, Ok, Err}
use Rattle.std.specs.Int.{w16, w32, swap_bytes}
use Rattle.cip_types.specs.Parts.{number_in}
use Rattle.cip_types.specs.declared.names.Identity.{Identity}
use Rattle.cip_encap.specs.declared.packet.SocketAddress.{SocketAddress}
use Rattle.identity_search.specs.declared.reading.item.FoundIdentity.{FoundIdentity}
use Rattle.identity_search.specs.declared.reading.item.IdentityFault.{IdentityFault}
use Rattle.identity_search.specs.declared.reading.item.IdentityFault.TheVariants as fault

-- an identity as its values
pub record IdentityFields : Type 0 where
  pub at : SocketAddress
  pub device : Identity
  pub status : ℕ
  pub serial : ℕ
  pub name : List ℕ
  pub state : ℕ

abbrev pub view_found : FoundIdentity → IdentityFields
view_found f = record { at = f.at; device = f.device; status = f.status; serial = f.serial; name = f.name.now; state = f.state }

-- one identity item of this length
unfoldable pub is_head : List ℕ → Bool
is_head bytes = number_in w16 bytes 0 == 1 && (number_in w16 bytes 2 == 0x000C && (number_in w16 bytes 4 + 6 == length bytes && number_in w16 bytes 6 == 1))

-- an address of the Internet
unfoldable pub is_internet : List ℕ → Bool
is_internet bytes = number_in w16 bytes 8 == 0x0200

unfoldable pub socket_at : List ℕ → SocketAddress
socket_at bytes = record { port = swap_bytes w16 (number_in w16 bytes 10); address = record { 0 = swap_bytes w32 (number_in w32 bytes 12) } }

unfoldable pub device_at : List ℕ → Identity
device_at bytes = record { vendor = number_in w16 bytes 24; device_type = number_in w16 bytes 26; product = number_in w16 bytes 28; major = slice_index bytes 30; minor = slice_index bytes 31 }

-- the identity at its places
unfoldable pub identity_at : List ℕ → IdentityFields
identity_at bytes = record {
  at = socket_at bytes;
  device = device_at bytes;
  status = number_in w16 bytes 32;
  serial = number_in w32 bytes 34;
  name = take (slice_index bytes 38) (drop 39 bytes);
  state = slice_index bytes (39 + slice_index bytes 38);
}

-- the identity of the data of a reply
abbrev pub item_reading : List ℕ → Result IdentityFields IdentityFault
item_reading bytes =
    if nat_lt (length bytes) 40 then Err fault.Truncated
    else if is_head bytes then
    (if is_internet bytes then (if length bytes == 40 + slice_index bytes 38 then Ok (identity_at bytes) else Err fault.Name)
    else Err fault.Family)
    else Err fault.Item
