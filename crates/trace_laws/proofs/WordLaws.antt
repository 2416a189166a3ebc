-- What is written as a word is read as the same value.
use Rattle.std.proofs.Common.{◌≡◌, ℕ, zero, suc, ◌<◌, ◌^◌, ◌/◌, ◌%◌, Bool, true, false, cond, List, [], ◌∷◌, ◌++◌, length, get_or, Option, Some, None, refl, sym, ap, subst, ◌∙◌, arith, eqb}
use Rattle.std.specs.Prelude.{◌&&◌, nat_lt, decimal, IfSome}
use Rattle.std.specs.List.{slice_index}
use Rattle.std.specs.Int.{w16, w32, to_be_bytes, from_be_bytes}
use Rattle.std.specs.Result.{result_ok}
use Rattle.std.specs.Str.{all_ascii_digits}
use Rattle.std.specs.Str.Parse.{digits_value}
use Rattle.std.proofs.lemmas.Bool.Decides.{nat_tests}
use Rattle.std.proofs.lemmas.Nat.{from_be_bytes-to_be_bytes_2, from_be_bytes-to_be_bytes_4}
use Rattle.std.proofs.lemmas.Fmt.{digits_decimal, digits_value-decimal, decimal_nonempty, first_decimal, decimal_digit}
use Rattle.std.proofs.lemmas.Str.Parse.{IsNumeralModel, numerals_by_value, tells_all_ascii_digits}
use Rattle.std.specs.Net.Grammar.{IsDotted}
use Rattle.std.specs.Net.Reader.{read_ipv4}
use Rattle.std.proofs.lemmas.List.{append-nil}
use Rattle.std.proofs.NetLemmas.Ipv4.{read_ipv4_complete}
use Rattle.std.proofs.NetLemmas.Texts.{IsDotted-ipv4_text}
use Rattle.hex.specs.Hex.{IsBytes, encode_lower, encode_with, lower_digits}
use Rattle.hex.proofs.HexLemmas.{decode_of-encode_lower}
use Rattle.cip_types.specs.declared.names.Node.{Node}
use Rattle.cip_types.specs.declared.names.ConnId.{ConnId}
use Rattle.adapter_table.specs.declared.profile.Action.{Action}
use Rattle.adapter_table.specs.declared.profile.Action.TheVariants.{Zero, Hold}
use Rattle.trace_words.specs.Words.{number_of, is_short_form, node_word, node_of, bytes_word, bytes_of, is_dash, digits_of, id_word, id_of, general_word, general_of, extended_word, extended_of}
use Rattle.trace_lines.specs.Kinds.{action_word, action_of}

-- NUMBERS

own : IsNumeralModel (λ word. all_ascii_digits word ≡ true) (digits_value 10)
own = numerals_by_value _ tells_all_ascii_digits

below : (m n : ℕ) → m < n → nat_lt m n ≡ true
below m n less = grind (arith, nat_tests)

all_hold : {A : Type 0} (s d l f : Bool) (x : Option A) → s ≡ true → d ≡ true → l ≡ true → f ≡ true → cond ((s && (d && l)) && f) x None ≡ x
all_hold s d l f x sh dh lh fh = rw (sh, dh, lh, fh) refl

short_above : (word : List ℕ) → 48 < get_or word 0 0 → is_short_form word ≡ true
short_above [] above = refl
short_above (c ∷ cs) above =
    let plus : eqb c 43 ≡ false = grind (arith, nat_tests, above) in
    let zero : eqb c 48 ≡ false = grind (arith, nat_tests, above) in
    rw (plus, zero) refl

short : (n : ℕ) → n < 2 ^ 64 → is_short_form (decimal n) ≡ true
short zero fits = let one : decimal 0 ≡ 48 ∷ [] = decimal_digit 0 (omega arith) in ap is_short_form one
short (suc n) fits = short_above (decimal (suc n)) (first_decimal (suc n) (omega arith) fits)

pub number_back : (bits n : ℕ) → n < 2 ^ bits → n < 2 ^ 64 → number_of bits (decimal n) ≡ Some n
unfolding number_of
number_back bits n small fits =
    let value : digits_value 10 (decimal n) ≡ n = digits_value-decimal own n fits in
    all_hold _ _ _ _ (Some (digits_value 10 (decimal n))) (short n fits) (digits_decimal own n fits) (below _ _ (decimal_nonempty n fits)) (below _ _ (rw value small)) ∙ ap Some value

-- BYTES

no_and : (b : Bool) → (b && false) ≡ false
no_and true = refl
no_and false = refl

no_dash : (x y : ℕ) (rest : List ℕ) → is_dash (x ∷ y ∷ rest) ≡ false
no_dash x y rest = no_and (eqb x 45)

no_dash_spelled : (bytes : List ℕ) → 0 < length bytes → is_dash (encode_lower bytes) ≡ false
unfolding encode_with
no_dash_spelled [] some = absurd (omega (arith, some))
no_dash_spelled (byte ∷ bytes) some = no_dash (slice_index lower_digits (byte / 16)) (slice_index lower_digits (byte % 16)) (encode_with lower_digits bytes)

digits_back : (bytes : List ℕ) → 0 < length bytes → IsBytes bytes → digits_of (encode_lower bytes) ≡ Some bytes
unfolding encode_with
digits_back [] some fit = absurd (omega (arith, some))
digits_back (byte ∷ bytes) some fit = ap result_ok (decode_of-encode_lower (byte ∷ bytes) fit)

plain : (word : List ℕ) (said : Option (List ℕ)) → is_dash word ≡ false → digits_of word ≡ said → bytes_of word ≡ said
unfolding bytes_of
plain word said undashed is = rw undashed is

pub bytes_back : (bytes : List ℕ) → IsBytes bytes → bytes_of (bytes_word bytes) ≡ Some bytes
unfolding bytes_of
bytes_back [] fit = refl
bytes_back (byte ∷ bytes) fit = plain (encode_lower (byte ∷ bytes)) (Some (byte ∷ bytes)) (no_dash_spelled (byte ∷ bytes) (omega arith)) (digits_back (byte ∷ bytes) (omega arith) fit)

-- NUMBERS OF SO MANY DIGITS

len_2 : (n : ℕ) → length (to_be_bytes w16 n) ≡ 2
len_2 n = refl

len_4 : (n : ℕ) → length (to_be_bytes w32 n) ≡ 4
len_4 n = refl

fit_2 : (n : ℕ) → IsBytes (to_be_bytes w16 n)
fit_2 n zero = omega arith
fit_2 n (suc zero) = omega arith
fit_2 n (suc (suc i)) = omega arith

fit_4 : (n : ℕ) → IsBytes (to_be_bytes w32 n)
fit_4 n zero = omega arith
fit_4 n (suc zero) = omega arith
fit_4 n (suc (suc zero)) = omega arith
fit_4 n (suc (suc (suc zero))) = omega arith
fit_4 n (suc (suc (suc (suc i)))) = omega arith

pub id_back : (id : ConnId) → id.0 < 2 ^ 32 → id_of (id_word id) ≡ Some id
unfolding id_of
id_back id fits =
    let some : 0 < length (to_be_bytes w32 id.0) = omega (arith, len_4 id.0) in
    rw (digits_back (to_be_bytes w32 id.0) some (fit_4 id.0)) (ap (λ n. Some (record { 0 = n })) (from_be_bytes-to_be_bytes_4 id.0 fits))

one_byte : (byte : ℕ) → byte < 2 ^ 8 → IsBytes (byte ∷ [])
one_byte byte fits zero = fits
one_byte byte fits (suc i) = omega arith

pub general_back : (general : ℕ) → general < 2 ^ 8 → general_of (general_word general) ≡ Some general
unfolding general_of
general_back general fits = rw (digits_back (general ∷ []) (omega arith) (one_byte general fits)) refl

pub extended_back : (extended : Option ℕ) → IfSome extended (λ status. status < 2 ^ 16) → extended_of (extended_word extended) ≡ Some extended
unfolding extended_of
extended_back None fits = refl
extended_back (Some status) fits =
    let some : 0 < length (to_be_bytes w16 status) = omega (arith, len_2 status) in
    let undashed : is_dash (encode_lower (to_be_bytes w16 status)) ≡ false = no_dash_spelled (to_be_bytes w16 status) some in
    rw (undashed, digits_back (to_be_bytes w16 status) some (fit_2 status)) (ap (λ n. Some (Some n)) (from_be_bytes-to_be_bytes_2 status fits))

pub action_back : (action : Action) → action_of (action_word action) ≡ Some action
unfolding action_of
action_back Zero = refl
action_back Hold = refl

-- ADDRESSES

node_found : (word address_bytes : List ℕ) (bits : ℕ) → IsDotted word address_bytes → bits ≡ from_be_bytes w32 address_bytes → Some (record { 0 = bits }) ≡ node_of word
unfolding node_of
node_found word address_bytes bits h is =
    let read : read_ipv4 (word ++ []) ≡ Some (address_bytes, []) = read_ipv4_complete word address_bytes [] h (omega arith) in
    let here : read_ipv4 word ≡ Some (address_bytes, []) = subst (λ w. read_ipv4 w ≡ Some (address_bytes, [])) (append-nil word) read in
    rw here (ap (λ n. Some (record { 0 = n })) is)

bounds_of : (bytes : List ℕ) → IsBytes bytes → (k : ℕ) → get_or bytes k 0 < 2 ^ 8
bounds_of bytes fit k = fit k

pub node_back : (node : Node) → node.0 < 2 ^ 32 → node_of (node_word node) ≡ Some node
node_back node fits =
    sym (node_found (node_word node) (to_be_bytes w32 node.0) node.0 (IsDotted-ipv4_text (to_be_bytes w32 node.0) (len_4 node.0) (bounds_of (to_be_bytes w32 node.0) (fit_4 node.0))) (sym (from_be_bytes-to_be_bytes_4 node.0 fits)))
