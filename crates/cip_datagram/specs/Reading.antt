-- The reading of bytes as a class 1 datagram, as a function. `Datagram` has it as a relation (Volume 2,
-- chapter 2, common packet format).
use Rattle.std.specs.Prelude.{ℕ, ◌-◌, Bool, ◌==◌, ◌&&◌, nat_lt, nat_le, if◌then◌else◌, List, [], ◌∷◌, length, Option, Some, None, Result, Ok, Err}
use Rattle.cip_types.specs.Fields.{fields_at}
use Rattle.cip_types.specs.Texts.{Tailed}
use Rattle.cip_datagram.specs.declared.datagram.DatagramFault.{DatagramFault}
use Rattle.cip_datagram.specs.declared.datagram.DatagramFault.TheVariants as fault
use Rattle.cip_datagram.specs.Datagram.{DatagramFields, datagram_widths}

-- a result, with its value seen by view
abbrev pub seen : {X Y : Type 0} → (X → Y) → Result X DatagramFault → Result Y DatagramFault
seen view (Ok x) = Ok (view x)
seen view (Err f) = Err f

-- a sequenced address item of 8 bytes, and a connected data item of at least a sequence count
abbrev pub are_items : ℕ → ℕ → ℕ → ℕ → ℕ → Bool
are_items items address address_len connected len = (items == 2) && (address == 0x8002) && (address_len == 8) && (connected == 0xB1) && nat_le 2 len

-- data by the length that its item states
abbrev pub sized_reading : ℕ → DatagramFields → Result DatagramFields DatagramFault
sized_reading len d =
    if nat_lt (length d.payload) len then Err fault.Truncated
    else if nat_lt len (length d.payload) then Err fault.Trailing
    else Ok d

-- the reading of the numbers of the fixed part and the bytes after it
abbrev pub parts_reading : List ℕ → List ℕ → Result DatagramFields DatagramFault
parts_reading (items ∷ address ∷ address_len ∷ connection ∷ sequence ∷ connected ∷ len ∷ count ∷ []) rest =
    if are_items items address address_len connected len
    then sized_reading (len - 2) (record { connection = connection; sequence = sequence; count = count; payload = rest })
    else Err fault.Items
parts_reading _ rest = Err fault.Truncated

-- the same where the fixed part may be cut short
abbrev pub found_reading : Option Tailed → Result DatagramFields DatagramFault
found_reading None = Err fault.Truncated
found_reading (Some p) = parts_reading p.0 p.1

-- the reading of bytes as a datagram
unfoldable pub datagram_reading : List ℕ → Result DatagramFields DatagramFault
datagram_reading bytes = found_reading (fields_at datagram_widths bytes)
