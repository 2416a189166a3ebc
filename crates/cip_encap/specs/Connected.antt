-- The items of a connected message, which are the data of the command SendUnitData (Volume 2, chapter 2, common packet
-- format; Volume 1, chapter 3, class 3 transport).
--
--   interface handle   u32   0
--   timeout            u16   not judged, and 0 where it is written
--   item count         u16   2, and the number of socket address items
--   type               u16   0x00A1, connected address item
--   length             u16   4
--   connection id      u32   that of the receiver's direction
--   type               u16   0x00B1, connected data item
--   length             u16   of the sequence count and the message, at least 2
--   sequence count     u16
--   message
--
-- and after them any number of socket address items, as after the data of `Packet`. None is written.
use Rattle.std.specs.Prelude.{◌≡◌, ℕ, ◌+◌, ◌<◌, ◌^◌, List, [], ◌∷◌, ◌++◌, length, Result, Ok, Err}
use Rattle.std.specs.Int.{Width, w16, w32}
use Rattle.cip_types.specs.Fields.{fields_text}
use Rattle.cip_encap.specs.declared.connected.ConnectedPacket.{ConnectedPacket}
use Rattle.cip_encap.specs.declared.packet.ItemFault.{ItemFault}
use Rattle.cip_encap.specs.declared.packet.ItemFault.TheVariants.{Bad}
use Rattle.cip_encap.specs.Packet.{AreSocketItems}

-- a connected message: the id of its connection, its sequence count, and its bytes
pub record ConnectedFields : Type 0 where
  pub connection : ℕ
  pub count : ℕ
  pub message : List ℕ

-- the contents of a connected message of the program
abbrev pub view_connected : ConnectedPacket → ConnectedFields
view_connected p = record { connection = p.connection.0; count = p.count; message = p.message.now }

-- the fields before the message
abbrev pub connected_widths : List Width
connected_widths = w32 ∷ w16 ∷ w16 ∷ w16 ∷ w16 ∷ w32 ∷ w16 ∷ w16 ∷ w16 ∷ []

-- the numbers before a message of this length, with a timeout in seconds, and socket address items after it
abbrev pub connected_numbers : (seconds sockets connection count len : ℕ) → List ℕ
connected_numbers seconds sockets connection count len = 0 ∷ seconds ∷ (2 + sockets) ∷ 0xA1 ∷ 4 ∷ connection ∷ 0xB1 ∷ (2 + len) ∷ count ∷ []

-- each number within its field
pub record ConnectedFits (f : ConnectedFields) (seconds sockets : ℕ) : Type 0 where
  pub timeout : seconds < 2 ^ 16
  pub items : 2 + sockets < 2 ^ 16
  pub connection : f.connection < 2 ^ 32
  pub count : f.count < 2 ^ 16
  pub message : 2 + length f.message < 2 ^ 16

-- the text is that of the items, with any timeout, and any socket address items after the message
abbrev pub IsConnectedText : List ℕ → ConnectedFields → Type 0
IsConnectedText text f =
    (seconds sockets : ℕ)
    × ((items : List ℕ)
    × ConnectedFits f seconds sockets
    × AreSocketItems sockets items
    × (text ≡ fields_text connected_widths (connected_numbers seconds sockets f.connection f.count (length f.message)) ++ (f.message ++ items)))

-- the result is a reading of the bytes
abbrev pub IsConnectedReading : List ℕ → Result ConnectedFields ItemFault → Type 0
IsConnectedReading bytes (Ok f) = IsConnectedText bytes f
IsConnectedReading bytes (Err Bad) = (f : ConnectedFields) → IsConnectedText bytes f → ⊥

-- ---- the texts that are written

-- the numbers before a message of this length, with timeout 0 and no socket address item
abbrev pub written_connected : (connection count len : ℕ) → List ℕ
written_connected connection count len = connected_numbers 0 0 connection count len

-- the bytes of the items of a message
abbrev pub connected_text : (connection count : ℕ) → List ℕ → List ℕ
connected_text connection count message = fields_text connected_widths (written_connected connection count (length message)) ++ message
