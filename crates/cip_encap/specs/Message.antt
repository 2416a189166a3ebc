-- Encapsulation messages: their contents, their bytes, and the faults of other bytes (Volume 2, chapter 2,
-- encapsulation messages).
--
--   command          u16
--   length           u16   of the data
--   session handle   u32
--   status           u32
--   sender context   u64   repeated in a reply
--   options          u32
--   data
use Rattle.std.specs.Prelude.{◌≡◌, ℕ, ◌<◌, ◌^◌, List, [], ◌∷◌, ◌++◌, length, Option, Some, None, Result, Ok, Err}
use Rattle.std.specs.Int.{Width, w16, w32, w64}
use Rattle.cip_types.specs.Fields.{fields_text, AreFields}
use Rattle.cip_types.specs.Texts.{Lacks, Exceeds, Tailed}
use Rattle.cip_encap.specs.declared.header.MessageHeader.{MessageHeader}
use Rattle.cip_encap.specs.declared.message.MessageView.{MessageView}
use Rattle.cip_encap.specs.declared.message.EncapFault.{EncapFault}
use Rattle.cip_encap.specs.declared.message.EncapFault.TheVariants as fault

-- the contents of a message
pub record MessageFields : Type 0 where
  pub command : ℕ
  pub session : ℕ
  pub status : ℕ
  pub context : ℕ
  pub options : ℕ
  pub payload : List ℕ

-- the contents of a message of the program
abbrev pub view_message : MessageView → MessageFields
view_message m = record { command = m.command; session = m.session; status = m.status; context = m.context; options = m.options; payload = m.«data».now }

-- the fields of the header
abbrev pub header_widths : List Width
header_widths = w16 ∷ w16 ∷ w32 ∷ w32 ∷ w64 ∷ w32 ∷ []

-- the numbers of the header
abbrev pub header_numbers : MessageFields → List ℕ
header_numbers m = m.command ∷ length m.payload ∷ m.session ∷ m.status ∷ m.context ∷ m.options ∷ []

-- the bytes of a message
abbrev pub message_text : MessageFields → List ℕ
message_text m = fields_text header_widths (header_numbers m) ++ m.payload

-- each number of the message within its field
pub record MessageFits (m : MessageFields) : Type 0 where
  pub command : m.command < 2 ^ 16
  pub session : m.session < 2 ^ 32
  pub status : m.status < 2 ^ 32
  pub context : m.context < 2 ^ 64
  pub options : m.options < 2 ^ 32
  pub payload : length m.payload < 2 ^ 16

-- text is the bytes of the message
abbrev pub IsMessageText : List ℕ → MessageFields → Type 0
IsMessageText text m = MessageFits m × (text ≡ message_text m)

-- the result is a reading of the bytes: a message, the front of one, or one with bytes after it
abbrev pub IsMessageReading : List ℕ → Result MessageFields EncapFault → Type 0
IsMessageReading bytes (Ok m) = IsMessageText bytes m
IsMessageReading bytes (Err fault.Truncated) = Lacks IsMessageText bytes
IsMessageReading bytes (Err fault.Trailing) = Exceeds IsMessageText bytes

-- ---- headers, whatever follows them

-- the numbers of a header of the program
abbrev pub view_header : MessageHeader → List ℕ
view_header h = h.command ∷ h.len ∷ h.session ∷ h.status ∷ h.context ∷ h.options ∷ []

-- these, and the bytes after them
abbrev pub headed : MessageHeader → List ℕ → Tailed
headed h rest = (view_header h, rest)

-- the result is a reading of the front: the numbers of a header and the bytes after them, or too few bytes for one
abbrev pub IsHeaderReading : List ℕ → Option Tailed → Type 0
IsHeaderReading bytes None = length bytes < 24
IsHeaderReading bytes (Some x) = AreFields header_widths x.0 × (bytes ≡ fields_text header_widths x.0 ++ x.1)
