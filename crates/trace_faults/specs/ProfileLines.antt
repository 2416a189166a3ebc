-- The lines of a profile by their names: the number of a line in its text.
use Rattle.std.specs.Prelude.{ℕ, ◌+◌, ◌-◌, ◌==◌, if◌then◌else◌, Bool, false, List, [], ◌∷◌, codes, Option, Some, None}
use Rattle.trace_words.specs.Words.{is_word, words_of}
use Rattle.trace_lines.specs.Limits.{keyword}
use Rattle.trace_text.specs.Forms.{is_ascii}
use Rattle.trace_text.specs.Reading.{parts_of}
use Rattle.trace_faults.specs.declared.profile_faults.defects.LineName.{LineName}
use Rattle.trace_faults.specs.declared.profile_faults.defects.LineName.TheVariants as name

-- the first word of the lines of a name
abbrev pub word_of : LineName → List ℕ
word_of name.Adapter = codes "adapter"
word_of name.Output = codes "output"
word_of name.Input = codes "input"
word_of name.Config = codes "config"
word_of name.Describe = codes "describe"
word_of (name.Limit row) = keyword row
word_of name.Object = codes "object"
word_of name.Heartbeat = codes "heartbeat"
word_of name.Scanner = codes "scanner"
word_of name.Tidy = codes "tidy"
word_of name.Openings = codes "openings"
word_of name.Serials = codes "serials"
word_of name.Ids = codes "ids"
word_of name.Slot = codes "slot"

abbrev pub begins_with : LineName → (words : List (List ℕ)) → Bool
begins_with name [] = false
begins_with name (word ∷ words) = is_word (word_of name) word

-- whether a line, without its LF, is one of a name
abbrev pub is_named : LineName → List ℕ → Bool
is_named name line = if is_ascii line then begins_with name (words_of line) else false

-- The number of the line of a name that so many others of it are before, where the parts of a text, which single LFs
-- separate, have the numbers from this one on. The last part ends with no LF, and is no line.
abbrev pub number_among : (number : ℕ) → LineName → (before : ℕ) → (parts : List (List ℕ)) → Option ℕ
number_among number name before [] = None
number_among number name before (last ∷ []) = None
number_among number name before (line ∷ next ∷ parts) =
    if is_named name line
    then (if before == 0 then Some number else number_among (number + 1) name (before - 1) (next ∷ parts))
    else number_among (number + 1) name before (next ∷ parts)

-- the number, from 1, of the line of a name in a text, where so many lines of it are before
abbrev pub line_number : List ℕ → LineName → (before : ℕ) → Option ℕ
line_number text name before = number_among 1 name before (parts_of text)
