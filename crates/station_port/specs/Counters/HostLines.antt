-- The lines of a text that a host writes, and the words of a line (Linux, /proc).
use Rattle.std.specs.Prelude.{ℕ, zero, suc, ◌+◌, ◌-◌, ◌*◌, ◌%◌, ◌^◌, ◌==◌, ◌&&◌, ◌||◌, not, nat_lt, if◌then◌else◌, Bool, List, [], ◌∷◌, take, drop, length, option_and_then, Option, Some, None}
use Rattle.std.specs.List.{position_or_len}

-- LINES

abbrev pub is_line_feed : ℕ → Bool
is_line_feed byte = byte == 10

-- the first line of a text, without its line feed, and what is behind it
abbrev pub line_of : List ℕ → List ℕ
line_of text = take (position_or_len is_line_feed text) text

abbrev pub behind_line : List ℕ → List ℕ
behind_line text = drop (position_or_len is_line_feed text + 1) text

abbrev pub onto_line : ℕ → List (List ℕ) → List (List ℕ)
onto_line byte [] = (byte ∷ []) ∷ []
onto_line byte (line ∷ lines) = (byte ∷ line) ∷ lines

-- the lines of a text. A line feed ends each of them; the last one may have none
unfoldable pub lines_of : List ℕ → List (List ℕ)
lines_of [] = []
lines_of (byte ∷ rest) = if is_line_feed byte then [] ∷ lines_of rest else onto_line byte (lines_of rest)

-- WORDS

abbrev pub is_space : ℕ → Bool
is_space byte = byte == 32 || byte == 9

abbrev pub is_of_word : ℕ → Bool
is_of_word byte = not (is_space byte)

-- the first word of a line, and what is behind it
abbrev pub behind_spaces : List ℕ → List ℕ
behind_spaces line = drop (position_or_len is_of_word line) line

abbrev pub front_of : List ℕ → List ℕ
front_of line = take (position_or_len is_space line) line

abbrev pub behind_front : List ℕ → List ℕ
behind_front line = drop (position_or_len is_space line) line

unfoldable pub word_of : List ℕ → List ℕ
word_of line = front_of (behind_spaces line)

unfoldable pub behind_word : List ℕ → List ℕ
behind_word line = behind_front (behind_spaces line)

-- what is behind so many words
unfoldable pub behind_words : ℕ → List ℕ → List ℕ
behind_words zero line = line
behind_words (suc count) line = behind_words count (behind_word line)

-- the word behind so many others, which is empty if there are no more
abbrev pub word_behind : ℕ → List ℕ → List ℕ
word_behind count line = word_of (behind_words count line)

-- NUMBERS

abbrev pub digit_value : ℕ → Option ℕ
digit_value byte = if nat_lt byte 48 || nat_lt 57 byte then None else Some (byte - 48)

-- a number of decimal digits, at least one and at most twenty, modulo 2^32
unfoldable pub decimal_from : ℕ → List ℕ → Option ℕ
decimal_from so_far [] = Some so_far
decimal_from so_far (byte ∷ rest) = option_and_then (λ digit. decimal_from ((10 * so_far + digit) % 2 ^ 32) rest) (digit_value byte)

abbrev pub decimal_of : List ℕ → Option ℕ
decimal_of word = if length word == 0 || nat_lt 20 (length word) then None else decimal_from 0 word

-- a hexadecimal digit, of either case
abbrev pub hex_value : ℕ → Option ℕ
hex_value byte =
    if nat_lt 47 byte && nat_lt byte 58 then Some (byte - 48) else
    if nat_lt 64 byte && nat_lt byte 71 then Some (byte - 55) else
    if nat_lt 96 byte && nat_lt byte 103 then Some (byte - 87) else None
