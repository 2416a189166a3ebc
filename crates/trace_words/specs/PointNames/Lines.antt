-- The lines of a profile that name a point, a slot or a bit: comments whose first words are `# name` or `# bit`.
use Rattle.std.specs.Prelude.{ℕ, ◌+◌, ◌==◌, ◌^◌, nat_lt, if◌then◌else◌, bytes_eq, codes, Bool, List, [], take, drop, position, Option, Some, None}
use Rattle.trace_words.specs.Words.{number_of}
use Rattle.trace_words.specs.PointNames.Texts.{is_ascii}
use Rattle.trace_words.specs.declared.point_names.line.Named.{Named}
use Rattle.trace_words.specs.declared.point_names.line.Named.TheVariants as named
use Rattle.trace_words.specs.declared.point_names.line.NameKind.{NameKind}
use Rattle.trace_words.specs.declared.point_names.line.NameKind.TheVariants as kind

-- WORDS

abbrev pub is_space : ℕ → Bool
is_space byte = byte == 32

abbrev pub front_with : Option ℕ → List ℕ → List ℕ
front_with None line = line
front_with (Some end) line = take end line

abbrev pub rest_with : Option ℕ → List ℕ → List ℕ
rest_with None line = []
rest_with (Some end) line = drop (end + 1) line

-- the word at the front, up to a space
abbrev pub front_word : List ℕ → List ℕ
front_word line = front_with (position is_space line) line

-- what is behind that space
abbrev pub rest_words : List ℕ → List ℕ
rest_words line = rest_with (position is_space line) line

abbrev pub narrowed : Option ℕ → Option ℕ
narrowed None = None
narrowed (Some number) = if nat_lt number (2 ^ 32) then Some number else None

-- a number of 32 bits in decimal digits, with no needless zero in front
abbrev pub number_in : List ℕ → Option ℕ
number_in word = if is_ascii word then narrowed (number_of 64 word) else None

-- NAME LINES

-- the second word of a comment
abbrev pub kind_with : List ℕ → Option (NameKind × List ℕ)
kind_with rest =
    if bytes_eq (front_word rest) (codes "name") then Some (kind.Whole, rest_words rest)
    else if bytes_eq (front_word rest) (codes "bit") then Some (kind.Bit, rest_words rest)
    else None

-- the kind of a name line, and its other words; none of another line
abbrev pub name_kind : List ℕ → Option (NameKind × List ℕ)
name_kind line = if bytes_eq (front_word line) (codes "#") then kind_with (rest_words line) else None

-- WHAT IS NAMED

abbrev pub point_with : Option ℕ → List ℕ → Option (Named × List ℕ)
point_with None text = None
point_with (Some point) text = Some (named.Point point, text)

abbrev pub slot_with : Option ℕ → List ℕ → Option (Named × List ℕ)
slot_with None text = None
slot_with (Some slot) text = Some (named.Slot slot, text)

-- `slot N TEXT`, or `POINT TEXT`
abbrev pub whole_by : List ℕ → Option (Named × List ℕ)
whole_by words =
    if bytes_eq (front_word words) (codes "slot") then slot_with (number_in (front_word (rest_words words))) (rest_words (rest_words words))
    else point_with (number_in (front_word words)) (rest_words words)

-- a byte has bits 0 to 7
abbrev pub bit_with : (point byte : ℕ) → Option ℕ → List ℕ → Option (Named × List ℕ)
bit_with point byte None text = None
bit_with point byte (Some bit) text = if nat_lt bit 8 then Some (named.Bit point byte bit, text) else None

abbrev pub byte_with : ℕ → Option ℕ → List ℕ → Option (Named × List ℕ)
byte_with point None words = None
byte_with point (Some byte) words = bit_with point byte (number_in (front_word words)) (rest_words words)

abbrev pub bit_by_point : Option ℕ → List ℕ → Option (Named × List ℕ)
bit_by_point None words = None
bit_by_point (Some point) words = byte_with point (number_in (front_word words)) (rest_words words)

-- `POINT BYTE BIT TEXT`
abbrev pub bit_by : List ℕ → Option (Named × List ℕ)
bit_by words = bit_by_point (number_in (front_word words)) (rest_words words)

-- what a name line names, and its text; none by other words
abbrev pub named_by : NameKind → List ℕ → Option (Named × List ℕ)
named_by kind.Whole words = whole_by words
named_by kind.Bit words = bit_by words
