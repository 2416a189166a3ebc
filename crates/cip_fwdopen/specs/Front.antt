-- Texts at the front of other bytes: numbers of a fixed part, and as many bytes as these count
-- (Volume 1, chapter 2, message router request and response).
use Rattle.std.specs.Prelude.{◌≡◌, ℕ, nat_lt, if◌then◌else◌, List, ◌++◌, length, take, drop, Option, Some, None}
use Rattle.std.specs.Int.{Width}
use Rattle.cip_types.specs.Fields.{fields_at}
use Rattle.cip_types.specs.Texts.{Tailed}

-- the bytes are a text of p and the rest
abbrev pub Begins : {P : Type 0} → (List ℕ → P → Type 0) → List ℕ → P → List ℕ → Type 0
Begins IsText bytes p rest = (front : List ℕ) × IsText front p × (bytes ≡ front ++ rest)

-- the bytes after a fixed part, cut at the length that its numbers state
abbrev pub parted : (List ℕ → ℕ) → Option Tailed → Option (Tailed × List ℕ)
parted tail_len None = None
parted tail_len (Some p) = if nat_lt (length p.1) (tail_len p.0) then None else Some ((p.0, take (tail_len p.0) p.1), drop (tail_len p.0) p.1)

-- a fixed part with the bytes that it counts, and the rest; None where the bytes end before
abbrev pub front_at : List Width → (List ℕ → ℕ) → List ℕ → Option (Tailed × List ℕ)
front_at ws tail_len bytes = parted tail_len (fields_at ws bytes)
