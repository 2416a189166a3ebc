-- The Internet checksum (RFC 1071, section 1): the complement of the one's complement sum of the 16-bit words.
use Rattle.std.specs.Prelude.{ℕ, ◌+◌, ◌-◌, ◌*◌, ◌%◌, ◌==◌, if◌then◌else◌, List, [], ◌∷◌}

-- the sum of the 16-bit words of bytes, the first byte of a word the greater one; a zero follows a last odd byte
abbrev pub word_sum : List ℕ → ℕ
word_sum [] = 0
word_sum (last ∷ []) = last * 256
word_sum (high ∷ low ∷ rest) = high * 256 + low + word_sum rest

-- The complement of the one's complement sum of words that sum to this number. A carry out of the 16 bits is added at
-- the low end, so the one's complement sum is 0 only if all words are 0, and else the number of 1 to 65,535 that has
-- the remainder of the sum by 65,535.
unfoldable pub checksum_of : ℕ → ℕ
checksum_of sum = if sum == 0 then 65535 else 65534 - (sum - 1) % 65535
