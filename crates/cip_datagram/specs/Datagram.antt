-- Class 1 datagrams: their contents, their bytes, and the faults of other bytes (Volume 2, chapter 2, common
-- packet format, and chapter 3, class 0 and class 1 connected data).
--
--   item count         u16   2
--   type               u16   0x8002, sequenced address item
--   length             u16   8
--   connection id      u32
--   sequence number    u32
--   type               u16   0x00B1, connected data item
--   length             u16   of the sequence count and the data: the connection size
--   sequence count     u16
--   data                     with a run/idle header at its front, where the connection has one
use Rattle.std.specs.Prelude.{◌≡◌, ◌≢◌, ℕ, ◌+◌, ◌<◌, ◌≤◌, ◌^◌, ◌⊎◌, List, [], ◌∷◌, ◌++◌, length, take, Result, Ok, Err}
use Rattle.std.specs.Int.{Width, w16, w32}
use Rattle.cip_types.specs.Fields.{fields_text}
use Rattle.cip_types.specs.Texts.{Lacks, Exceeds}
use Rattle.cip_datagram.specs.declared.datagram.Datagram.{Datagram}
use Rattle.cip_datagram.specs.declared.datagram.DatagramFault.{DatagramFault}
use Rattle.cip_datagram.specs.declared.datagram.DatagramFault.TheVariants as fault

-- the contents of a datagram
pub record DatagramFields : Type 0 where
  pub connection : ℕ
  pub sequence : ℕ
  pub count : ℕ
  pub payload : List ℕ

-- the contents of a datagram of the program
abbrev pub view_datagram : Datagram → DatagramFields
view_datagram d = record { connection = d.connection.0; sequence = d.sequence; count = d.count; payload = d.«data».now }

-- the fields of the fixed part, up to the sequence count
abbrev pub datagram_widths : List Width
datagram_widths = w16 ∷ w16 ∷ w16 ∷ w32 ∷ w32 ∷ w16 ∷ w16 ∷ w16 ∷ []

-- the numbers of the fixed part
abbrev pub datagram_numbers : DatagramFields → List ℕ
datagram_numbers d = 2 ∷ 0x8002 ∷ 8 ∷ d.connection ∷ d.sequence ∷ 0xB1 ∷ (length d.payload + 2) ∷ d.count ∷ []

-- the bytes of a datagram
abbrev pub datagram_text : DatagramFields → List ℕ
datagram_text d = fields_text datagram_widths (datagram_numbers d) ++ d.payload

-- each number of the datagram within its field
pub record DatagramFits (d : DatagramFields) : Type 0 where
  pub connection : d.connection < 2 ^ 32
  pub sequence : d.sequence < 2 ^ 32
  pub count : d.count < 2 ^ 16
  pub payload : length d.payload ≤ 65533

-- text is the bytes of the datagram
abbrev pub IsDatagramText : List ℕ → DatagramFields → Type 0
IsDatagramText text d = DatagramFits d × (text ≡ datagram_text d)

-- no datagram begins with the bytes
abbrev pub BeginsNone : List ℕ → Type 0
BeginsNone bytes = (text more : List ℕ) (d : DatagramFields) → IsDatagramText text d → text ≢ bytes ++ more

-- the bytes are fewer than the fixed part, or the front of a longer datagram
abbrev pub IsTruncated : List ℕ → Type 0
IsTruncated bytes = (length bytes < 20) ⊎ Lacks IsDatagramText bytes

-- the fixed part is whole, and that of no datagram
abbrev pub HasOtherItems : List ℕ → Type 0
HasOtherItems bytes = (20 ≤ length bytes) × BeginsNone (take 20 bytes)

-- the result is a reading of the bytes
abbrev pub IsDatagramReading : List ℕ → Result DatagramFields DatagramFault → Type 0
IsDatagramReading bytes (Ok d) = IsDatagramText bytes d
IsDatagramReading bytes (Err fault.Truncated) = IsTruncated bytes
IsDatagramReading bytes (Err fault.Items) = HasOtherItems bytes
IsDatagramReading bytes (Err fault.Trailing) = Exceeds IsDatagramText bytes
