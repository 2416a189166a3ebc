-- Bytes that are written out.
use Prim.Native.String.{String}
use Rattle.std.specs.Prelude.{ℕ, zero, suc, ◌+◌, ◌*◌, ◌-◌, ◌/◌, ◌%◌, nat_lt, if◌then◌else◌, List, [], ◌∷◌, codes}

-- the value of a digit by its character: `0` is 48, `A` is 65
abbrev pub digit : ℕ → ℕ
digit code = if nat_lt code 65 then code - 48 else code - 55

-- two digits a byte, and one character between two bytes
abbrev pub bytes_of : List ℕ → List ℕ
bytes_of (high ∷ low ∷ blank ∷ rest) = (16 * digit high + digit low) ∷ bytes_of rest
bytes_of (high ∷ low ∷ []) = (16 * digit high + digit low) ∷ []
bytes_of (high ∷ []) = []
bytes_of [] = []

-- the bytes of a text such as `0A FF`
abbrev pub hex : String → List ℕ
hex text = bytes_of (codes text)

-- a number in so many bytes, the least significant first
abbrev pub little : ℕ → ℕ → List ℕ
little zero n = []
little (suc more) n = n % 256 ∷ little more (n / 256)
