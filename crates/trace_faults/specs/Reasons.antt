-- Why a line is bad, as far as its contract says it.
use Rattle.std.specs.Prelude.{ℕ, ◌≡◌, Bool, true, false, List, [], ◌∷◌, Option, Some, None, is_some}
use Rattle.trace_faults.specs.declared.reasons.LineReason.{LineReason}
use Rattle.trace_faults.specs.declared.reasons.LineReason.TheVariants.{Misplaced}
use Rattle.trace_outcomes.specs.Parts.{part_reader}

-- the line is read, and only its place is wrong
abbrev pub is_misplaced : LineReason → Bool
is_misplaced Misplaced = true
is_misplaced other = false

-- a part of an outcome follows the first word
abbrev pub is_part_line : List (List ℕ) → Bool
is_part_line [] = false
is_part_line (word ∷ words) = is_some (part_reader words)

-- What was found among words, of which these are left: no bad word, if all are of their kinds, or why one is bad. The
-- first list has those behind them, if they are of their kinds.
abbrev pub IsFirstBad : Option (List (List ℕ)) → List (List ℕ) → Option LineReason → Type 0
IsFirstBad behind left None = behind ≡ Some left
IsFirstBad behind left (Some reason) = (behind ≡ None) × (is_misplaced reason ≡ false)
