-- Frames that may read what a host has counted of an interface (Volume 1, appendix C, logical segments; Volume 2, chapter 5, Ethernet
-- Link object).
use Rattle.std.specs.Prelude.{ℕ, ◌==◌, ◌&&◌, ◌||◌, Bool, false, List, [], ◌∷◌}

-- the bytes begin with a logical segment of class F6: of 8 bits (20), or of 16 or 32 bits behind a pad byte (21, 22)
abbrev pub begins_link : List ℕ → Bool
begins_link [] = false
begins_link (first ∷ []) = false
begins_link (first ∷ second ∷ []) = first == 0x20 && second == 0xF6
begins_link (first ∷ second ∷ third ∷ []) = first == 0x20 && second == 0xF6
begins_link (first ∷ second ∷ third ∷ fourth ∷ rest) =
    (first == 0x20 && second == 0xF6) || ((first == 0x21 || first == 0x22) && (third == 0xF6 && fourth == 0))

-- such a segment begins somewhere
abbrev pub names_link : List ℕ → Bool
names_link [] = false
names_link (first ∷ rest) = begins_link (first ∷ rest) || names_link rest
