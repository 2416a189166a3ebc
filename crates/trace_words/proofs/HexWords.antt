-- Hexadecimal digits as bytes, and bytes as digits.
use Rattle.std.proofs.Common.{zero, suc, ◌≡◌, ◌≢◌, ℕ, ◌+◌, ◌-◌, ◌*◌, ◌/◌, ◌%◌, ◌==◌, ◌<◌, ◌≤◌, Bool, true, false, cond, List, [], ◌∷◌, ◌++◌, length, slice_index, take, drop, Option, Some, None, Result, Ok, Err, refl, sym, ap, ◌∙◌, arith}
use Rattle.std.specs.Prelude.{option_map, option_and_then, nat_lt, ◌&&◌}
use Rattle.std.specs.List.{list_all}
use Rattle.std.specs.Result.{result_ok}
use Rattle.std.proofs.lemmas.Bool.Decides.{nat_tests}
use Rattle.std.proofs.lemmas.List.{append-nil, append_assoc, take_all}
use Rattle.std.specs.Str.{IsAscii}
use Rattle.hex.specs.Hex.{decode_of, decode_pairs, digit_or_error, encode_lower, encode_with, lower_digits, hex_digit_value, pair_value, ◌>>=◌}
use Rattle.hex.specs.declared.error.FromHexError.{FromHexError}
use Rattle.hex.specs.declared.error.FromHexError.TheVariants.{OddLength}
use Rattle.trace_words.specs.Words.{digits_of}

-- the bytes of pairs of digits
abbrev pub read_pairs : List ℕ → Option (List ℕ)
read_pairs [] = Some []
read_pairs (digit ∷ []) = None
read_pairs (high ∷ low ∷ rest) = option_and_then (λ byte. option_map (λ bytes. byte ∷ bytes) (read_pairs rest)) (result_ok (pair_value high low 0))

abbrev prepended : ℕ → Result (List ℕ) FromHexError → Result (List ℕ) FromHexError
prepended byte more = more >>= λ bytes. Ok (byte ∷ bytes)

one_more : (byte : ℕ) (more : Result (List ℕ) FromHexError) → result_ok (prepended byte more) ≡ option_map (λ bytes. byte ∷ bytes) (result_ok more)
one_more byte (Ok bytes) = refl
one_more byte (Err e) = refl

abbrev pair_of : ℕ → ℕ → ℕ → Option ℕ → Option ℕ → Result ℕ FromHexError
pair_of high low i a b = digit_or_error high i a >>= λ h. digit_or_error low (i + 1) b >>= λ l. Ok (h * 16 + l)

pair_more : (high low i : ℕ) (a b : Option ℕ) (more : Result (List ℕ) FromHexError) → result_ok (pair_of high low i a b >>= λ byte. prepended byte more) ≡ option_and_then (λ byte. option_map (λ bytes. byte ∷ bytes) (result_ok more)) (result_ok (pair_of high low 0 a b))
pair_more high low i None b more = refl
pair_more high low i (Some x) None more = refl
pair_more high low i (Some x) (Some y) more = one_more (x * 16 + y) more

same_pairs : (i : ℕ) (text : List ℕ) → result_ok (decode_pairs i text) ≡ read_pairs text
unfolding decode_pairs
same_pairs i [] = refl
same_pairs i (digit ∷ []) = refl
same_pairs i (high ∷ low ∷ rest) =
    pair_more high low i (hex_digit_value high) (hex_digit_value low) (decode_pairs (i + 2) rest)
    ∙ ap (λ more. option_and_then (λ byte. option_map (λ bytes. byte ∷ bytes) more) (result_ok (pair_value high low 0))) (same_pairs (i + 2) rest)

none_behind : (byte : Option ℕ) → None ≡ option_and_then (λ byte. option_map (λ (bytes : List ℕ). byte ∷ bytes) None) byte
none_behind None = refl
none_behind (Some byte) = refl

odd_none : (text : List ℕ) → length text % 2 ≡ 1 → read_pairs text ≡ None
odd_none [] odd = absurd (omega arith)
odd_none (digit ∷ []) odd = refl
odd_none (high ∷ low ∷ rest) odd =
    let fewer : length rest % 2 ≡ 1 = omega arith in
    ap (λ more. option_and_then (λ byte. option_map (λ bytes. byte ∷ bytes) more) (result_ok (pair_value high low 0))) (odd_none rest fewer)
    ∙ sym (none_behind (result_ok (pair_value high low 0)))

judged : (odd : Bool) (text : List ℕ) → (odd ≡ true → read_pairs text ≡ None) → result_ok (cond odd (Err OddLength) (decode_pairs 0 text)) ≡ read_pairs text
judged true text none = sym (none refl)
judged false text none = same_pairs 0 text

pairs_read : (text : List ℕ) → result_ok (decode_of text) ≡ read_pairs text
pairs_read text = judged (length text % 2 == 1) text (λ odd. odd_none text (grind (arith, nat_tests)))

-- a word that is not empty is read by pairs
pub digits_read : (word : List ℕ) → length word ≢ 0 → digits_of word ≡ read_pairs word
digits_read [] some = absurd (some refl)
digits_read (digit ∷ digits) some = pairs_read (digit ∷ digits)

-- ONE PAIR AFTER THE OTHER

abbrev pub behind : List ℕ → Option (List ℕ) → Option (List ℕ)
behind front more = option_map (λ bytes. front ++ bytes) more

more_behind : (front : List ℕ) (byte : ℕ) (more : Option (List ℕ)) → behind front (option_map (λ bytes. byte ∷ bytes) more) ≡ behind (front ++ byte ∷ []) more
more_behind front byte None = refl
more_behind front byte (Some bytes) = ap Some (sym (append_assoc front (byte ∷ []) bytes))

abbrev after_pair : List ℕ → List ℕ
after_pair rest = take (length rest - 2) (drop 2 rest)

parted : (rest : List ℕ) → 2 ≤ length rest → rest ≡ slice_index rest 0 ∷ slice_index rest 1 ∷ after_pair rest
parted [] long = absurd (omega arith)
parted (high ∷ []) long = absurd (omega arith)
parted (high ∷ low ∷ after) long =
    let all : take (length (high ∷ low ∷ after) - 2) after ≡ after = take_all (length (high ∷ low ∷ after) - 2) after (omega arith) in
    ap (λ bytes. high ∷ low ∷ bytes) (sym all)

abbrev with_byte : Option (List ℕ) → Option ℕ → Option (List ℕ)
with_byte more byte = option_and_then (λ byte. option_map (λ bytes. byte ∷ bytes) more) byte

next_pair : (all : Option (List ℕ)) (front rest : List ℕ) (byte : Option ℕ) → all ≡ behind front (read_pairs rest) → 2 ≤ length rest → byte ≡ result_ok (pair_value (slice_index rest 0) (slice_index rest 1) 0) → all ≡ behind front (with_byte (read_pairs (after_pair rest)) byte)
next_pair all front rest byte so_far long is =
    so_far ∙ ap (λ text. behind front (read_pairs text)) (parted rest long) ∙ ap (λ b. behind front (with_byte (read_pairs (after_pair rest)) b)) (sym is)

pub pair_read : (all : Option (List ℕ)) (front front' rest : List ℕ) (byte : ℕ) → all ≡ behind front (read_pairs rest) → 2 ≤ length rest → Some byte ≡ result_ok (pair_value (slice_index rest 0) (slice_index rest 1) 0) → front' ≡ front ++ byte ∷ [] → all ≡ behind front' (read_pairs (after_pair rest))
pair_read all front front' rest byte so_far long is pushed =
    next_pair all front rest (Some byte) so_far long is ∙ more_behind front byte (read_pairs (after_pair rest)) ∙ ap (λ f. behind f (read_pairs (after_pair rest))) (sym pushed)

pub no_pair : (all : Option (List ℕ)) (front rest : List ℕ) → all ≡ behind front (read_pairs rest) → 2 ≤ length rest → None ≡ result_ok (pair_value (slice_index rest 0) (slice_index rest 1) 0) → all ≡ None
no_pair all front rest so_far long is = next_pair all front rest None so_far long is

pub half_pair : (all : Option (List ℕ)) (front rest : List ℕ) → all ≡ behind front (read_pairs rest) → length rest < 2 → length rest ≢ 0 → all ≡ None
half_pair all front [] so_far short some = absurd (some refl)
half_pair all front (digit ∷ []) so_far short some = so_far
half_pair all front (high ∷ low ∷ rest) so_far short some = absurd (omega arith)

pub all_read : (all : Option (List ℕ)) (front rest : List ℕ) → all ≡ behind front (read_pairs rest) → length rest ≡ 0 → all ≡ Some front
all_read all front [] so_far none = so_far ∙ ap Some (append-nil front)
all_read all front (digit ∷ rest) so_far none = absurd (omega arith)

-- BYTES AS DIGITS

encoded_append : (t front rest : List ℕ) → encode_with t (front ++ rest) ≡ encode_with t front ++ encode_with t rest
unfolding encode_with
encoded_append t [] rest = refl
encoded_append t (byte ∷ front) rest = ap (λ digits. slice_index t (byte / 16) ∷ slice_index t (byte % 16) ∷ digits) (encoded_append t front rest)

pub piece_pushed : (old all out out' piece after rest : List ℕ) → out ++ encode_lower rest ≡ old ++ encode_lower all → out' ≡ out ++ encode_lower piece → rest ≡ piece ++ after → out' ++ encode_lower after ≡ old ++ encode_lower all
piece_pushed old all out out' piece after rest so_far pushed is =
    ap (λ text. text ++ encode_lower after) pushed ∙ append_assoc out (encode_lower piece) (encode_lower after)
    ∙ ap (λ digits. out ++ digits) (sym (encoded_append lower_digits piece after)) ∙ ap (λ bytes. out ++ encode_lower bytes) (sym is) ∙ so_far

nothing_encoded : (rest : List ℕ) → length rest ≡ 0 → encode_lower rest ≡ []
unfolding encode_with
nothing_encoded [] none = refl
nothing_encoded (byte ∷ rest) none = absurd (omega arith)

pub all_pushed : (old all out rest : List ℕ) → out ++ encode_lower rest ≡ old ++ encode_lower all → length rest ≡ 0 → out ≡ old ++ encode_lower all
all_pushed old all out rest so_far none = sym (append-nil out) ∙ ap (λ digits. out ++ digits) (sym (nothing_encoded rest none)) ∙ so_far

both : (a b : Bool) → (a && b) ≡ true → (a ≡ true) × (b ≡ true)
both true b h = (refl, h)
both false b h = absurd (cc)

ascii_at : (text : List ℕ) → list_all (λ byte. nat_lt byte 128) text ≡ true → IsAscii text
ascii_at [] h i = omega arith
ascii_at (c ∷ cs) h zero = let first = (both (nat_lt c 128) (list_all (λ byte. nat_lt byte 128) cs) h).0 in grind (arith, nat_tests)
ascii_at (c ∷ cs) h (suc i) = ascii_at cs (both (nat_lt c 128) (list_all (λ byte. nat_lt byte 128) cs) h).1 i

pub lower_ascii : IsAscii lower_digits
lower_ascii = ascii_at lower_digits refl
