-- The text of a line: what is left of it without the blanks around it, and its first word.
use Rattle.std.specs.Prelude.{ℕ, ◌-◌, ◌==◌, ◌||◌, ◌&&◌, nat_eq, nat_lt, nat_le, if◌then◌else◌, Bool, List, [], ◌∷◌, length, take, drop, slice_index_or, Option, Some, None}
use Rattle.std.specs.Borrow.{Bor}
use Rattle.std.specs.Char.{is_ascii_whitespace}
use Rattle.std.specs.List.{after_first, before_first, prefix_len, starts_with, suffix_len, list_all}

abbrev pub without_front : List ℕ → List ℕ
without_front text = drop (prefix_len is_ascii_whitespace text) text

abbrev pub without_end : List ℕ → List ℕ
without_end text = take (length text - suffix_len is_ascii_whitespace text) text

-- a line without the blanks at its front and at its end
abbrev pub trimmed : List ℕ → List ℕ
trimmed line = without_end (without_front line)

-- the text is empty, or a comment, which begins with #
abbrev pub is_skipped : List ℕ → Bool
is_skipped text = slice_index_or text 0 35 == 35

abbrev pub is_space : ℕ → Bool
is_space byte = byte == 32

-- the word before the first space
unfoldable pub first_word : List ℕ → List ℕ
first_word text = before_first is_space text

-- what is behind the first space; nothing, if there is none
unfoldable pub behind_word : List ℕ → List ℕ
behind_word text = after_first is_space text

abbrev pub with_front : ℕ → Option (List ℕ × List ℕ) → Option (List ℕ × List ℕ)
with_front byte (Some cut) = Some (byte ∷ cut.0, cut.1)
with_front byte None = None

-- what is before the first place at which a text has these bytes, and what is behind them
unfoldable pub cut_at : (mark text : List ℕ) → Option (List ℕ × List ℕ)
cut_at mark [] = None
cut_at mark (byte ∷ bytes) = if starts_with nat_eq (byte ∷ bytes) mark then Some ([], drop (length mark) (byte ∷ bytes)) else with_front byte (cut_at mark bytes)

-- both parts, wherever they lie in memory
abbrev pub view_cut : Option (Bor (List ℕ) × Bor (List ℕ)) → Option (List ℕ × List ℕ)
view_cut (Some cut) = Some (cut.0.now, cut.1.now)
view_cut None = None

-- letters, digits, - and _
abbrev pub is_name_byte : ℕ → Bool
is_name_byte byte = (nat_le 97 byte && nat_le byte 122) || ((nat_le 65 byte && nat_le byte 90) || ((nat_le 48 byte && nat_le byte 57) || ((byte == 45) || (byte == 95))))

-- the name of a device: a file is named after it
abbrev pub is_name : List ℕ → Bool
is_name word = nat_lt 0 (length word) && (nat_le (length word) 64 && list_all is_name_byte word)
