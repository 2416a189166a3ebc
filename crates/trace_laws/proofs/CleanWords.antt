-- What is written as a word is clean.
use Rattle.std.proofs.Common.{◌≡◌, ℕ, zero, suc, ◌<◌, ◌^◌, ◌/◌, ◌%◌, true, List, [], ◌∷◌, get_or, Option, Some, None, refl, arith, inl, inr}
use Rattle.std.specs.Prelude.{◌&&◌, nat_lt, decimal}
use Rattle.std.specs.List.{slice_index}
use Rattle.std.specs.Int.{w16, w32, to_be_bytes}
use Rattle.std.specs.Char.{is_ascii_digit}
use Rattle.std.specs.Str.{all_ascii_digits}
use Rattle.std.specs.Str.Parse.{digits_value}
use Rattle.std.proofs.lemmas.Bool.Decides.{nat_tests}
use Rattle.std.proofs.lemmas.Fmt.{digits_decimal}
use Rattle.std.proofs.lemmas.List.Sums.{list_all-from_AllPass}
use Rattle.std.proofs.lemmas.Str.Parse.{IsNumeralModel, numerals_by_value, tells_all_ascii_digits}
use Rattle.std.proofs.NetLemmas.Alphabet.{All-ipv4_text, IsDigitOrDot}
use Rattle.hex.specs.Hex.{IsBytes, encode_lower, encode_with, lower_digits}
use Rattle.cip_types.specs.declared.names.Node.{Node}
use Rattle.cip_types.specs.declared.names.ConnId.{ConnId}
use Rattle.trace_words.specs.Words.{node_word, bytes_word, id_word, general_word, extended_word}
use Rattle.trace_laws.proofs.LineLaws.{is_plain, is_clean, both, and_both}

own : IsNumeralModel (λ word. all_ascii_digits word ≡ true) (digits_value 10)
own = numerals_by_value _ tells_all_ascii_digits

plain_within : (byte : ℕ) → 32 < byte → byte < 128 → is_plain byte ≡ true
plain_within byte above below = and_both (nat_lt 32 byte) (nat_lt byte 128) (grind (arith, nat_tests, above)) (grind (arith, nat_tests, below))

digit_plain : (byte : ℕ) → is_ascii_digit byte ≡ true → is_plain byte ≡ true
digit_plain byte digit = plain_within byte (grind (arith, nat_tests, digit)) (grind (arith, nat_tests, digit))

digits_clean : (word : List ℕ) → all_ascii_digits word ≡ true → is_clean word ≡ true
digits_clean [] digits = refl
digits_clean (byte ∷ word) digits =
    let parts = both (is_ascii_digit byte) (all_ascii_digits word) digits in
    and_both (is_plain byte) (is_clean word) (digit_plain byte parts.0) (digits_clean word parts.1)

pub decimal_clean : (n : ℕ) → n < 2 ^ 64 → is_clean (decimal n) ≡ true
decimal_clean n fits = digits_clean (decimal n) (digits_decimal own n fits)

dotted_plain : (byte : ℕ) → IsDigitOrDot byte → is_plain byte ≡ true
dotted_plain byte (inl digit) = plain_within byte (omega (arith, digit.0)) (omega (arith, digit.1))
dotted_plain byte (inr dot) = plain_within byte (omega (arith, dot)) (omega (arith, dot))

fit_4 : (n k : ℕ) → get_or (to_be_bytes w32 n) k 0 < 2 ^ 8
fit_4 n zero = omega arith
fit_4 n (suc zero) = omega arith
fit_4 n (suc (suc zero)) = omega arith
fit_4 n (suc (suc (suc zero))) = omega arith
fit_4 n (suc (suc (suc (suc i)))) = omega arith

pub node_clean : (node : Node) → is_clean (node_word node) ≡ true
node_clean node = list_all-from_AllPass is_plain (node_word node) (λ k d below. dotted_plain _ (All-ipv4_text (to_be_bytes w32 node.0) (fit_4 node.0) k d below))

-- a hexadecimal digit
glyph_plain : (k : ℕ) → k < 16 → is_plain (slice_index lower_digits k) ≡ true
glyph_plain zero below = refl
glyph_plain (suc zero) below = refl
glyph_plain (suc (suc zero)) below = refl
glyph_plain (suc (suc (suc zero))) below = refl
glyph_plain (suc (suc (suc (suc zero)))) below = refl
glyph_plain (suc (suc (suc (suc (suc zero))))) below = refl
glyph_plain (suc (suc (suc (suc (suc (suc zero)))))) below = refl
glyph_plain (suc (suc (suc (suc (suc (suc (suc zero))))))) below = refl
glyph_plain (suc (suc (suc (suc (suc (suc (suc (suc zero)))))))) below = refl
glyph_plain (suc (suc (suc (suc (suc (suc (suc (suc (suc zero))))))))) below = refl
glyph_plain (suc (suc (suc (suc (suc (suc (suc (suc (suc (suc zero)))))))))) below = refl
glyph_plain (suc (suc (suc (suc (suc (suc (suc (suc (suc (suc (suc zero))))))))))) below = refl
glyph_plain (suc (suc (suc (suc (suc (suc (suc (suc (suc (suc (suc (suc zero)))))))))))) below = refl
glyph_plain (suc (suc (suc (suc (suc (suc (suc (suc (suc (suc (suc (suc (suc zero))))))))))))) below = refl
glyph_plain (suc (suc (suc (suc (suc (suc (suc (suc (suc (suc (suc (suc (suc (suc zero)))))))))))))) below = refl
glyph_plain (suc (suc (suc (suc (suc (suc (suc (suc (suc (suc (suc (suc (suc (suc (suc zero))))))))))))))) below = refl
glyph_plain (suc (suc (suc (suc (suc (suc (suc (suc (suc (suc (suc (suc (suc (suc (suc (suc k)))))))))))))))) below = absurd (omega (arith, below))

tail_fits : (byte : ℕ) (bytes : List ℕ) → IsBytes (byte ∷ bytes) → IsBytes bytes
tail_fits byte bytes fit i = fit (suc i)

pub spelled_clean : (bytes : List ℕ) → IsBytes bytes → is_clean (encode_lower bytes) ≡ true
unfolding encode_with
spelled_clean [] fit = refl
spelled_clean (byte ∷ bytes) fit =
    let small : byte < 256 = fit zero in
    and_both (is_plain (slice_index lower_digits (byte / 16))) (is_plain (slice_index lower_digits (byte % 16)) && is_clean (encode_lower bytes)) (glyph_plain (byte / 16) (omega (arith, small)))
    (and_both (is_plain (slice_index lower_digits (byte % 16))) (is_clean (encode_lower bytes)) (glyph_plain (byte % 16) (omega arith)) (spelled_clean bytes (tail_fits byte bytes fit)))

pub bytes_clean : (bytes : List ℕ) → IsBytes bytes → is_clean (bytes_word bytes) ≡ true
bytes_clean [] fit = refl
bytes_clean (byte ∷ bytes) fit = spelled_clean (byte ∷ bytes) fit

fit_2 : (n : ℕ) → IsBytes (to_be_bytes w16 n)
fit_2 n zero = omega arith
fit_2 n (suc zero) = omega arith
fit_2 n (suc (suc i)) = omega arith

pub id_clean : (id : ConnId) → is_clean (id_word id) ≡ true
id_clean id = spelled_clean (to_be_bytes w32 id.0) (fit_4 id.0)

one_byte : (byte : ℕ) → byte < 2 ^ 8 → IsBytes (byte ∷ [])
one_byte byte fits zero = fits
one_byte byte fits (suc i) = omega arith

pub general_clean : (general : ℕ) → general < 2 ^ 8 → is_clean (general_word general) ≡ true
general_clean general fits = spelled_clean (general ∷ []) (one_byte general fits)

pub extended_clean : (extended : Option ℕ) → is_clean (extended_word extended) ≡ true
extended_clean None = refl
extended_clean (Some status) = spelled_clean (to_be_bytes w16 status) (fit_2 status)
