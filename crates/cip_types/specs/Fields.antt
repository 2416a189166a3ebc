-- Little-endian fields: texts that are numbers of stated widths, one after the other
-- (Volume 1, appendix C, the octet order of CIP data).
use Rattle.std.specs.Prelude.{◌≡◌, ℕ, ◌<◌, ◌^◌, nat_lt, if◌then◌else◌, List, [], ◌∷◌, ◌++◌, length, take, drop, Option, Some, None}
use Rattle.std.specs.Int.{Width, byte_len, to_le_bytes, from_le_bytes}

-- the numbers one after the other, each of its stated width
abbrev pub fields_text : List Width → List ℕ → List ℕ
fields_text [] ns = []
fields_text (w ∷ ws) [] = []
fields_text (w ∷ ws) (n ∷ ns) = to_le_bytes w n ++ fields_text ws ns

-- as many numbers as widths, each within its width
abbrev pub AreFields : List Width → List ℕ → Type 0
AreFields [] [] = Unit {0}
AreFields [] (n ∷ ns) = ⊥
AreFields (w ∷ ws) [] = ⊥
AreFields (w ∷ ws) (n ∷ ns) = (n < 256 ^ byte_len w) × AreFields ws ns

-- the number at the front, and the bytes after it
abbrev pub field_at : Width → List ℕ → Option (ℕ × List ℕ)
field_at w bs = if nat_lt (length bs) (byte_len w) then None else Some (from_le_bytes w (take (byte_len w) bs), drop (byte_len w) bs)

-- a reading, and the next one on the bytes after it
abbrev pub then_at : {A B : Type 0} → Option (A × List ℕ) → (A → List ℕ → Option (B × List ℕ)) → Option (B × List ℕ)
then_at None next = None
then_at (Some x) next = next x.0 x.1

-- the numbers at the front, and the bytes after them
abbrev pub fields_at : List Width → List ℕ → Option (List ℕ × List ℕ)
fields_at [] bs = Some ([], bs)
fields_at (w ∷ ws) bs = then_at (field_at w bs) (λ n rest. then_at (fields_at ws rest) (λ ns after. Some (n ∷ ns, after)))

-- The result of a function, seen by view, is the reading.
abbrev pub Finds : {X Y : Type 0} → (X → Y) → Option X → Option Y → Type 0
Finds view None reading = reading ≡ None
Finds view (Some x) reading = reading ≡ Some (view x)
