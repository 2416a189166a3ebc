-- The run/idle header, 32 bits: bit 0 is 1 for run and 0 for idle, the others are reserved (Volume 1, chapter 3,
-- real time formats).
use Rattle.std.specs.Prelude.{ℕ, ◌%◌, ◌==◌, if◌then◌else◌, Bool, List, Option}
use Rattle.std.specs.Option.{option_map}
use Rattle.std.specs.Int.{w32}
use Rattle.cip_types.specs.Fields.{field_at}

-- the header of a mode
abbrev pub mode_header : Bool → ℕ
mode_header run = if run then 1 else 0

-- whether a header says run
abbrev pub is_run : ℕ → Bool
is_run word = word % 2 == 1

-- the mode of the header at the front, and the bytes after it
abbrev pub header_at : List ℕ → Option (Bool × List ℕ)
header_at bytes = option_map (λ p. (is_run p.0, p.1)) (field_at w32 bytes)
