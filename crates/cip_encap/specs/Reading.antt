-- The reading of bytes as an encapsulation message, as a function. `Message` has it as a relation (Volume 2,
-- chapter 2, encapsulation messages).
use Rattle.std.specs.Prelude.{ℕ, nat_lt, if◌then◌else◌, List, [], ◌∷◌, length, Option, Some, None, Result, Ok, Err}
use Rattle.cip_types.specs.Fields.{fields_at}
use Rattle.cip_types.specs.Texts.{Tailed}
use Rattle.cip_encap.specs.declared.message.EncapFault.{EncapFault}
use Rattle.cip_encap.specs.declared.message.EncapFault.TheVariants as fault
use Rattle.cip_encap.specs.Message.{MessageFields, header_widths}

-- a result, with its value seen by view
abbrev pub seen : {X Y E : Type 0} → (X → Y) → Result X E → Result Y E
seen view (Ok x) = Ok (view x)
seen view (Err e) = Err e

-- data by the length that the header states
abbrev pub sized_reading : ℕ → MessageFields → Result MessageFields EncapFault
sized_reading len m =
    if nat_lt (length m.payload) len then Err fault.Truncated
    else if nat_lt len (length m.payload) then Err fault.Trailing
    else Ok m

-- the reading of the numbers of the header and the bytes after it
abbrev pub parts_reading : List ℕ → List ℕ → Result MessageFields EncapFault
parts_reading (command ∷ len ∷ session ∷ status ∷ context ∷ options ∷ []) rest =
    sized_reading len (record { command = command; session = session; status = status; context = context; options = options; payload = rest })
parts_reading _ rest = Err fault.Truncated

-- the same where the header may be cut short
abbrev pub found_reading : Option Tailed → Result MessageFields EncapFault
found_reading None = Err fault.Truncated
found_reading (Some p) = parts_reading p.0 p.1

-- the reading of bytes as a message
unfoldable pub message_reading : List ℕ → Result MessageFields EncapFault
message_reading bytes = found_reading (fields_at header_widths bytes)
