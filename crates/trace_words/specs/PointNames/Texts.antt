-- The text of a name: UTF-8, 1 to 32 characters, none of them a control character (Unicode, general category Cc).
use Rattle.std.specs.Prelude.{ℕ, ◌==◌, ◌≡◌, ◌&&◌, ◌||◌, not, nat_lt, Bool, true, false, List, [], ◌∷◌, filter, length, IsUtf8}
use Rattle.std.specs.List.{list_all, list_any}

-- C0 and DEL
abbrev pub is_control : ℕ → Bool
is_control byte = nat_lt byte 32 || byte == 127

-- a byte that begins a character
abbrev pub begins : ℕ → Bool
begins byte = nat_lt byte 128 || not (nat_lt byte 192)

-- how many characters bytes have
abbrev pub characters : List ℕ → ℕ
characters bytes = length (filter begins bytes)

-- the bytes C2 80 to C2 9F are characters of C1
abbrev pub ends_c1 : List ℕ → Bool
ends_c1 [] = false
ends_c1 (next ∷ bytes) = nat_lt next 0xA0

abbrev pub has_c1 : List ℕ → Bool
has_c1 [] = false
has_c1 (byte ∷ bytes) = (byte == 0xC2 && ends_c1 bytes) || has_c1 bytes

-- 1 to 32 characters, none of them a control character
abbrev pub is_plain : List ℕ → Bool
is_plain bytes = not (list_any is_control bytes) && (not (has_c1 bytes) && (nat_lt 0 (characters bytes) && nat_lt (characters bytes) 33))

abbrev pub IsNameText : List ℕ → Type 0
IsNameText bytes = IsUtf8 bytes × (is_plain bytes ≡ true)

-- each byte is a character of ASCII
abbrev pub is_ascii : List ℕ → Bool
is_ascii bytes = list_all (λ byte. nat_lt byte 128) bytes
