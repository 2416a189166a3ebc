-- A state that is written is read as itself.
use Rattle.std.proofs.Common.{zero, suc, ◌≡◌, ℕ, ◌+◌, ◌<◌, ◌^◌, Bool, true, false, List, [], ◌∷◌, ◌++◌, length, take, drop, get_or, Option, Some, None, refl, ap, ◌∙◌, arith, cond, eqb}
use Rattle.std.specs.Prelude.{◌&&◌, nat_lt, decimal, codes, position, option_map, option_and_then, IfSome}
use Rattle.std.specs.List.{position_from}
use Rattle.std.specs.Str.{all_ascii_digits}
use Rattle.std.specs.Str.Parse.{digits_value}
use Rattle.std.proofs.Math.Seq.{take-append_seam, drop-append-add}
use Rattle.std.proofs.lemmas.Bool.Decides.{nat_tests}
use Rattle.std.proofs.lemmas.Fmt.{digits_decimal, digits_value-decimal, decimal_nonempty, first_decimal, decimal_digit}
use Rattle.std.proofs.lemmas.Iterator.Adapters.{position_from-zero}
use Rattle.std.proofs.lemmas.List.{append_assoc}
use Rattle.std.proofs.lemmas.Str.Parse.{IsNumeralModel, numerals_by_value, tells_all_ascii_digits}
use Rattle.trace_words.specs.Words.{number_of, is_short_form}
use Rattle.station_record.specs.KeptState.Ids.{IsKept}
use Rattle.station_record.specs.KeptState.States.{first_line, ids_of, ids_text, ids_with, is_byte, line_behind, line_of, number_before, parted, serial_in, serials_of, serials_text, state_of, state_text, state_with}
use Rattle.station_record.specs.declared.kept_state.ids.KeptIds.{KeptIds}
use Rattle.station_record.specs.declared.kept_state.state.StationState.{StationState}

own : IsNumeralModel (λ word. all_ascii_digits word ≡ true) (digits_value 10)
own = numerals_by_value _ tells_all_ascii_digits

below : (m n : ℕ) → m < n → nat_lt m n ≡ true
below m n less = grind (arith, nat_tests)

all_hold : {A : Type 0} (s d l f : Bool) (x : Option A) → s ≡ true → d ≡ true → l ≡ true → f ≡ true → cond ((s && (d && l)) && f) x None ≡ x
all_hold s d l f x sh dh lh fh = rw (sh, dh, lh, fh) refl

short_above : (word : List ℕ) → 48 < get_or word 0 0 → is_short_form word ≡ true
short_above [] above = refl
short_above (c ∷ cs) above =
    let plus : eqb c 43 ≡ false = grind (arith, nat_tests, above) in
    let zero : eqb c 48 ≡ false = grind (arith, nat_tests, above) in
    rw (plus, zero) refl

short : (n : ℕ) → n < 2 ^ 64 → is_short_form (decimal n) ≡ true
short zero fits = let one : decimal 0 ≡ 48 ∷ [] = decimal_digit 0 (omega arith) in ap is_short_form one
short (suc n) fits = short_above (decimal (suc n)) (first_decimal (suc n) (omega arith) fits)

number_back : (n : ℕ) → n < 2 ^ 64 → number_of 64 (decimal n) ≡ Some n
unfolding number_of
number_back n fits =
    let value : digits_value 10 (decimal n) ≡ n = digits_value-decimal own n fits in
    all_hold _ _ _ _ (Some (digits_value 10 (decimal n))) (short n fits) (digits_decimal own n fits) (below _ _ (decimal_nonempty n fits)) (below _ _ (rw value fits)) ∙ ap Some value

-- a byte behind digits that is no digit is the first of its kind
found : (kind i : ℕ) (word rest : List ℕ) → kind < 48 → all_ascii_digits word ≡ true → position_from (is_byte kind) i (word ++ kind ∷ rest) ≡ Some (i + length word)
found kind i [] rest small digits =
    let is : eqb kind kind ≡ true = grind (arith, nat_tests) in
    ap (λ b. cond b (Some i) (position_from (is_byte kind) (i + 1) rest)) is ∙ ap Some (omega arith)
found kind i (c ∷ cs) rest small digits =
    let parts = tells_all_ascii_digits.parts c cs digits in
    let no : eqb c kind ≡ false = grind (arith, nat_tests, parts.0, small) in
    let later : position_from (is_byte kind) (i + 1) (cs ++ kind ∷ rest) ≡ Some ((i + 1) + length cs) = found kind (i + 1) cs rest small parts.1 in
    let here : position_from (is_byte kind) i (c ∷ (cs ++ kind ∷ rest)) ≡ position_from (is_byte kind) (i + 1) (cs ++ kind ∷ rest) = ap (λ b. cond b (Some i) (position_from (is_byte kind) (i + 1) (cs ++ kind ∷ rest))) no in
    here ∙ later ∙ ap Some (omega arith)

at : (kind : ℕ) (word rest : List ℕ) → kind < 48 → all_ascii_digits word ≡ true → position (is_byte kind) (word ++ kind ∷ rest) ≡ Some (length word)
at kind word rest small digits = position_from-zero (is_byte kind) (word ++ kind ∷ rest) ∙ found kind 0 word rest small digits ∙ ap Some (omega arith)

before : (kind n : ℕ) (rest : List ℕ) → kind < 48 → n < 2 ^ 64 → number_before kind (decimal n ++ kind ∷ rest) ≡ Some (n, rest)
before kind n rest small fits =
    let text : List ℕ = decimal n ++ kind ∷ rest in
    let place : position (is_byte kind) text ≡ Some (length (decimal n)) = at kind (decimal n) rest small (digits_decimal own n fits) in
    let front : take (length (decimal n)) text ≡ decimal n = take-append_seam (decimal n) (kind ∷ rest) in
    let behind : drop (length (decimal n) + 1) text ≡ rest = drop-append-add (decimal n) (kind ∷ rest) 1 in
    ap (λ p. option_and_then (parted text) p) place
    ∙ ap (λ t. option_map (λ number. (number, drop (length (decimal n) + 1) text)) (number_of 64 t)) front
    ∙ ap (λ v. option_map (λ number. (number, drop (length (decimal n) + 1) text)) v) (number_back n fits)
    ∙ ap (λ t. Some (n, t)) behind

first_of : (n : ℕ) (rest : List ℕ) → n < 2 ^ 64 → first_line (decimal n ++ 10 ∷ rest) ≡ Some (n, rest)
first_of n rest fits = before 10 n rest (omega arith) fits

in_range : (incarnation serial : ℕ) (serials : Option ℕ) (ids : Option KeptIds) → 0 < incarnation → incarnation < 2 ^ 8 → serial < 2 ^ 32 → state_with incarnation serial serials ids ≡ Some (record { incarnation = incarnation; serial = serial; serials = serials; ids = ids })
in_range incarnation serial serials ids some small fits = rw (below 0 incarnation some, below incarnation (2 ^ 8) small, below serial (2 ^ 32) fits) refl

-- the line of the first connection serial number, and the text behind it
abbrev serials_line : ℕ × List ℕ → Option (Option ℕ × List ℕ)
serials_line line = option_map (λ first. (Some first, line.1)) (serial_in line.0)

serials_back : (serials : Option ℕ) (ids : Option KeptIds) → IfSome serials (λ first. (0 < first) × (first < 2 ^ 16)) → serials_of (serials_text serials ++ ids_text ids) ≡ Some (serials, ids_text ids)
serials_back None None fit = refl
serials_back None (Some ids) fit = refl
serials_back (Some first) ids fit =
    let fourth : List ℕ = ids_text ids in
    let one : first_line ((decimal first ++ codes "\n") ++ fourth) ≡ Some (first, fourth) = ap first_line (append_assoc (decimal first) (codes "\n") fourth) ∙ first_of first fourth (omega (arith, fit.1)) in
    ap (λ line. option_and_then serials_line line) one ∙ rw (below 0 first fit.0, below first (2 ^ 16) fit.1) refl

ids_back : (ids : Option KeptIds) → IfSome ids IsKept → ids_of (ids_text ids) ≡ Some ids
ids_back None kept = refl
ids_back (Some ids) kept =
    let begins = kept.begins in
    let ends = kept.ends in
    let left = kept.left in
    let rest : List ℕ = decimal ids.left ++ codes "\n" in
    let one : number_before 32 (decimal ids.from ++ 32 ∷ rest) ≡ Some (ids.from, rest) = before 32 ids.from rest (omega arith) (omega (arith, ends)) in
    let two : first_line rest ≡ Some (ids.left, []) = first_of ids.left [] (omega (arith, left)) in
    ap (λ line. option_and_then (λ first. option_and_then (λ second. ids_with first.0 second.0 second.1) (first_line first.1)) line) one
    ∙ ap (λ line. option_and_then (λ second. ids_with ids.from second.0 second.1) line) two
    ∙ rw (below 0 ids.from (omega (arith, begins)), below ids.from (2 ^ 32) ends, below ids.left (2 ^ 32) (omega (arith, left))) refl

pub read_back : (state : StationState) → 0 < state.incarnation → state.incarnation < 2 ^ 8 → state.serial < 2 ^ 32 → IfSome state.serials (λ first. (0 < first) × (first < 2 ^ 16)) → IfSome state.ids IsKept → state_of (state_text state) ≡ Some state
read_back state some small fits kept given =
    let third : List ℕ = serials_text state.serials ++ ids_text state.ids in
    let second : List ℕ = line_of (codes "serial ") state.serial ++ third in
    let one : first_line ((decimal state.incarnation ++ codes "\n") ++ second) ≡ Some (state.incarnation, second) = ap first_line (append_assoc (decimal state.incarnation) (codes "\n") second) ∙ first_of state.incarnation second (omega (arith, small)) in
    let two : first_line ((decimal state.serial ++ codes "\n") ++ third) ≡ Some (state.serial, third) = ap first_line (append_assoc (decimal state.serial) (codes "\n") third) ∙ first_of state.serial third (omega (arith, fits)) in
    ap
    (λ line. option_and_then
    (λ first. option_and_then
    (λ second. option_and_then (λ third. option_and_then (state_with first.0 second.0 third.0) (ids_of third.1)) (serials_of second.1))
    (line_behind (codes "serial ") first.1))
    line) one
    ∙ ap (λ line. option_and_then (λ second. option_and_then (λ third. option_and_then (state_with state.incarnation second.0 third.0) (ids_of third.1)) (serials_of second.1)) line) two
    ∙ ap (λ line. option_and_then (λ third. option_and_then (state_with state.incarnation state.serial third.0) (ids_of third.1)) line) (serials_back state.serials state.ids kept)
    ∙ ap (λ ids. option_and_then (state_with state.incarnation state.serial state.serials) ids) (ids_back state.ids given)
    ∙ in_range state.incarnation state.serial state.serials state.ids some small fits
