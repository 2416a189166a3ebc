-- The items of explicit requests and replies outside connections, which are the data of the command
-- SendRRData (Volume 2, chapter 2, common packet format).
--
--   interface handle   u32   0
--   timeout            u16   in seconds
--   item count         u16   2, and the number of socket address items
--   type               u16   0, null address item
--   length             u16   0
--   type               u16   0x00B2, unconnected data item
--   length             u16   of the data, at least 1
--   data
--
-- and after them any number of socket address items:
--
--   type               u16   0x8000 for O->T, 0x8001 for T->O
--   length             u16   16
--   socket address           family u16, port u16, IPv4 address u32, 8 bytes of zeros; the most significant byte first
use Rattle.std.specs.Prelude.{◌≡◌, ℕ, zero, suc, ◌+◌, ◌<◌, ◌≤◌, ◌^◌, ◌⊎◌, List, [], ◌∷◌, ◌++◌, length, replicate, Option, Some, None, Result, Ok, Err}
use Rattle.std.specs.Int.{Width, w16, w32, to_le_bytes, to_be_bytes}
use Rattle.cip_types.specs.Fields.{fields_text}
use Rattle.cip_encap.specs.declared.packet.CommonPacket.{CommonPacket}
use Rattle.cip_encap.specs.declared.packet.ItemFault.{ItemFault}
use Rattle.cip_encap.specs.declared.packet.ItemFault.TheVariants.{Bad}
use Rattle.cip_encap.specs.declared.packet.SocketAddress.{SocketAddress}

-- the contents of items; the socket addresses are dropped
pub record PacketFields : Type 0 where
  pub timeout : ℕ
  pub payload : List ℕ

-- the contents of a packet of the program
abbrev pub view_packet : CommonPacket → PacketFields
view_packet p = record { timeout = p.timeout; payload = p.«data».now }

-- the fields before the data
abbrev pub packet_widths : List Width
packet_widths = w32 ∷ w16 ∷ w16 ∷ w16 ∷ w16 ∷ w16 ∷ w16 ∷ []

-- the numbers before the data, with this number of socket address items after it
abbrev pub packet_numbers : PacketFields → ℕ → List ℕ
packet_numbers p sockets = 0 ∷ p.timeout ∷ (2 + sockets) ∷ 0 ∷ 0 ∷ 0xB2 ∷ length p.payload ∷ []

-- the types of socket address items
abbrev pub IsSocketKind : ℕ → Type 0
IsSocketKind kind = (kind ≡ 0x8000) ⊎ (kind ≡ 0x8001)

-- a socket address item of the type
abbrev pub socket_item : ℕ → List ℕ → List ℕ
socket_item kind address = to_le_bytes w16 kind ++ (to_le_bytes w16 16 ++ address)

-- the text is this number of socket address items
abbrev pub AreSocketItems : ℕ → List ℕ → Type 0
AreSocketItems zero text = text ≡ []
AreSocketItems (suc n) text =
    (kind : ℕ)
    × ((address rest : List ℕ) × IsSocketKind kind × (length address ≡ 16) × (text ≡ socket_item kind address ++ rest) × AreSocketItems n rest)

-- each number within its field, and data
pub record PacketFits (p : PacketFields) (sockets : ℕ) : Type 0 where
  pub timeout : p.timeout < 2 ^ 16
  pub count : 2 + sockets < 2 ^ 16
  pub some : 1 ≤ length p.payload
  pub payload : length p.payload < 2 ^ 16

-- the text is that of the items, with any socket address items after the data
abbrev pub IsPacketText : List ℕ → PacketFields → Type 0
IsPacketText text p =
    (sockets : ℕ)
    × ((items : List ℕ) × PacketFits p sockets × AreSocketItems sockets items × (text ≡ fields_text packet_widths (packet_numbers p sockets) ++ (p.payload ++ items)))

-- the result is a reading of the bytes
abbrev pub IsPacketReading : List ℕ → Result PacketFields ItemFault → Type 0
IsPacketReading bytes (Ok p) = IsPacketText bytes p
IsPacketReading bytes (Err Bad) = (p : PacketFields) → IsPacketText bytes p → ⊥

-- ---- the texts that are written

-- a socket address
abbrev pub address_bytes : SocketAddress → List ℕ
address_bytes s = to_be_bytes w16 2 ++ (to_be_bytes w16 s.port ++ (to_be_bytes w32 s.address.0 ++ replicate 8 0))

-- the number of socket address items
abbrev pub socket_count : Option SocketAddress → ℕ
socket_count None = 0
socket_count (Some s) = 1

-- a T->O socket address item, if there is an address
abbrev pub socket_items : Option SocketAddress → List ℕ
socket_items None = []
socket_items (Some s) = socket_item 0x8001 (address_bytes s)

-- the numbers before data of this length, with timeout 0
abbrev pub written_numbers : ℕ → Option SocketAddress → List ℕ
written_numbers len socket = 0 ∷ 0 ∷ (2 + socket_count socket) ∷ 0 ∷ 0 ∷ 0xB2 ∷ len ∷ []

-- the bytes of items with timeout 0
abbrev pub packet_text : List ℕ → Option SocketAddress → List ℕ
packet_text payload socket =
    fields_text packet_widths (packet_numbers (record { timeout = 0; payload = payload }) (socket_count socket)) ++ (payload ++ socket_items socket)
