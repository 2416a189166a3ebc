-- The bytes of a stream after a text was written that it may have refused.
use Rattle.std.specs.Prelude.{ℕ, ◌≡◌, List, ◌++◌, Option, Result, Ok, Err}
use Rattle.std.specs.Io.KnownBytes.{Appends}

-- a beginning of the text is written, as far as the stream took it
abbrev pub BeginsToWrite : Option (List ℕ) → List ℕ → Option (List ℕ) → Type 0
BeginsToWrite old text new = (first : List ℕ) × ((rest : List ℕ) × ((text ≡ first ++ rest) × Appends old new first))

-- the whole text is written, or the stream refused what is left of it
abbrev pub IsTaken : {F : Type 0} → Option (List ℕ) → List ℕ → Result Unit F → Option (List ℕ) → Type 0
IsTaken old text (Ok done) new = Appends old new text
IsTaken old text (Err refused) new = BeginsToWrite old text new
