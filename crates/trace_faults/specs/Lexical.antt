-- The characters of a line that no line of a trace has at their places.
use Rattle.std.specs.Prelude.{ℕ, ◌+◌, ◌==◌, ◌&&◌, not, nat_lt, if◌then◌else◌, Bool, true, false, List, [], ◌∷◌, Option, Some, None}
use Rattle.trace_faults.specs.declared.lexical.Character.{Character}
use Rattle.trace_faults.specs.declared.lexical.Character.TheVariants.{CarriageReturn, Tab, Space, Unprinted}

-- whether a byte may be behind another one: printed ASCII characters, and one space between two of them
abbrev pub is_fit : ℕ → ℕ → Bool
is_fit before byte = if byte == 32 then not (before == 32) else (nat_lt 32 byte && nat_lt byte 127)

-- what a byte is that may not be at its place, which is in this column
abbrev pub character_at : ℕ → ℕ → Bool → Character
character_at byte column is_last =
    if byte == 13 && is_last then CarriageReturn
    else (if byte == 9 then Tab column else (if byte == 32 then Space column else Unprinted column))

abbrev pub is_empty : List ℕ → Bool
is_empty [] = true
is_empty (byte ∷ bytes) = false

-- a space at the end of a line of so many bytes
abbrev pub last_space : ℕ → ℕ → Option Character
last_space last done = if last == 32 && nat_lt 0 done then Some (Space done) else None

-- The first character of a line that no line of a trace has at its place, behind so many bytes, of which this one is
-- the last. What is before the line counts as a space.
abbrev pub bad_character : ℕ → ℕ → List ℕ → Option Character
bad_character before done [] = last_space before done
bad_character before done (byte ∷ bytes) =
    if is_fit before byte then bad_character byte (done + 1) bytes else Some (character_at byte (done + 1) (is_empty bytes))
