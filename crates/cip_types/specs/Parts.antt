-- Numbers of fixed widths in bytes, by their positions (Volume 1, appendix C, the octet order of CIP data).
use Rattle.std.specs.Prelude.{ℕ, ◌+◌, List, [], ◌∷◌, take, drop, slice_index}
use Rattle.std.specs.Int.{Width, w8, w16, w32, w64, w128, byte_len, from_le_bytes}

-- the length of numbers of the widths, in bytes
abbrev pub fields_len : List Width → ℕ
fields_len [] = 0
fields_len (w ∷ ws) = byte_len w + fields_len ws

-- the number at a position
abbrev pub number_in : Width → List ℕ → ℕ → ℕ
number_in w8 bs at = slice_index bs at
number_in w16 bs at = from_le_bytes w16 (take 2 (drop at bs))
number_in w32 bs at = from_le_bytes w32 (take 4 (drop at bs))
number_in w64 bs at = from_le_bytes w64 (take 8 (drop at bs))
number_in w128 bs at = from_le_bytes w128 (take 16 (drop at bs))

-- the numbers one after the other from a position on
abbrev pub numbers_in : List Width → List ℕ → ℕ → List ℕ
numbers_in [] bs at = []
numbers_in (w ∷ ws) bs at = number_in w bs at ∷ numbers_in ws bs (at + byte_len w)
