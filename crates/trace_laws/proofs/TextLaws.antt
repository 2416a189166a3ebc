-- Texts that lead from one draft to another, and readers of words one after the other.
use Rattle.std.proofs.Common.{◌≡◌, ℕ, zero, suc, ◌<◌, ◌^◌, Bool, true, false, cond, List, [], ◌∷◌, ◌++◌, length, Option, Some, refl, sym, ap, subst, ◌∙◌, arith, eqb, append_assoc}
use Rattle.std.specs.Prelude.{nat_lt, option_map, option_and_then, decimal}
use Rattle.std.specs.List.{All, list_all, join_with_byte}
use Rattle.std.specs.Str.{all_ascii_digits}
use Rattle.std.specs.Str.Parse.{digits_value}
use Rattle.std.specs.Char.{is_ascii_digit}
use Rattle.std.proofs.lemmas.Bool.Decides.{nat_tests}
use Rattle.std.proofs.lemmas.Fmt.{digits_decimal, decimal_nonempty}
use Rattle.std.proofs.lemmas.Str.Parse.{IsNumeralModel, numerals_by_value, tells_all_ascii_digits}
use Rattle.trace_words.specs.Words.{line_text, is_word}
use Rattle.trace_words.specs.Reader.{Reader, ◌>>=◌, next_word, Meanings, meaning}
use Rattle.trace_text.specs.declared.forms.TraceLine.{TraceLine}
use Rattle.trace_text.specs.declared.builder.TraceBuilder.{TraceBuilder}
use Rattle.trace_text.specs.Forms.{line_reader, line_of}
use Rattle.trace_text.specs.Reading.{builder_with}
use Rattle.trace_laws.proofs.LineLaws.{is_clean, are_clean, both, Leads, stays, goes_on, line_found, line_leads}

-- EACH OF A LIST

pub first_of : {A : Type 0} (P : A → Type 0) (x : A) (xs : List A) → All P (x ∷ xs) → P x
first_of P x xs all = all zero x (omega arith)

pub rest_of : {A : Type 0} (P : A → Type 0) (x : A) (xs : List A) → All P (x ∷ xs) → All P xs
rest_of P x xs all k d below = all (suc k) d (omega (arith, below))

-- TEXTS

-- a text leads from one draft to another, whatever stands behind it
pub record Reads (builder : TraceBuilder) (text : List ℕ) (builder' : TraceBuilder) : Type 0 where
  pub leads : (rest : List ℕ) → Leads builder (text ++ rest) builder' rest

pub reads_none : (builder : TraceBuilder) → Reads builder [] builder
reads_none builder = record { leads = λ rest. stays builder rest }

pub reads_both : (one two three : TraceBuilder) (a b : List ℕ) → Reads one a two → Reads two b three → Reads one (a ++ b) three
reads_both one two three a b first second = record { leads = λ rest. subst (λ text. Leads one text three rest) (sym (append_assoc a b rest)) (goes_on one two three (a ++ (b ++ rest)) (b ++ rest) rest (first.leads (b ++ rest)) (second.leads rest)) }

pub reads_as : (builder builder' : TraceBuilder) (text text' : List ℕ) → text ≡ text' → Reads builder text' builder' → Reads builder text builder'
reads_as builder builder' text text' is reads = subst (λ t. Reads builder t builder') (sym is) reads

-- a word that begins a line, and no comment
abbrev pub begins_line : List ℕ → Bool
begins_line [] = false
begins_line (c ∷ cs) = cond (eqb c 35) false true

not_hash : (b : Bool) → cond b false true ≡ true → b ≡ false
not_hash true h = absurd (cc)
not_hash false h = refl

pub line_reads : (builder builder' : TraceBuilder) (word : List ℕ) (words : List (List ℕ)) (line : TraceLine) → begins_line word ≡ true → is_clean word ≡ true → are_clean words ≡ true → line_reader (word ∷ words) ≡ Some (line, []) → builder_with builder line ≡ Some builder' → Reads builder (line_text (word ∷ words)) builder'
line_reads builder builder' [] words line begins clean all read built = absurd (cc)
line_reads builder builder' (c ∷ cs) words line begins clean all read built = record {
  leads = λ rest.
      subst (λ text. Leads builder text builder' rest) (sym (append_assoc (join_with_byte 32 ((c ∷ cs) ∷ words)) (10 ∷ []) rest)) (line_leads builder builder' c cs words line rest (not_hash (eqb c 35) begins) clean all read built);
}

-- these words make this line: where it is allowed, and alone
pub record IsLine (words : List (List ℕ)) (line : TraceLine) : Type 0 where
  pub reads : (builder builder' : TraceBuilder) → builder_with builder line ≡ Some builder' → Reads builder (line_text words) builder'
  pub found : line_of (join_with_byte 32 words) ≡ Some line

pub line_is : (word : List ℕ) (words : List (List ℕ)) (line : TraceLine) → begins_line word ≡ true → is_clean word ≡ true → are_clean words ≡ true → line_reader (word ∷ words) ≡ Some (line, []) → IsLine (word ∷ words) line
line_is word words line begins clean all read = record {
  reads = λ builder builder' built. line_reads builder builder' word words line begins clean all read built;
  found = line_found word words line clean all read;
}

-- READERS

pub next_reads : {A B : Type 0} (read : List ℕ → Option A) (next : A → Reader B) (word : List ℕ) (words : List (List ℕ)) (value : A) (said : Option (B × List (List ℕ))) → read word ≡ Some value → next value words ≡ said → (next_word read >>= next) (word ∷ words) ≡ said
next_reads {A = A} read next word words value said is then = ap (λ r. option_and_then {T = A × List (List ℕ)} (λ got. next got.0 got.1) (option_map (λ v. (v, words)) r)) is ∙ then

pub then_reads : {A B : Type 0} (read : Reader A) (next : A → Reader B) (words : List (List ℕ)) (value : A) (left : List (List ℕ)) (said : Option (B × List (List ℕ))) → read words ≡ Some (value, left) → next value left ≡ said → (read >>= next) words ≡ said
then_reads {A = A} read next words value left said is then = ap (λ r. option_and_then {T = A × List (List ℕ)} (λ got. next got.0 got.1) r) is ∙ then

-- NUMBERS IN FRONT

abbrev pub begins_low : List ℕ → Bool
begins_low [] = false
begins_low (c ∷ cs) = nat_lt c 58

abbrev pub begins_high : List ℕ → Bool
begins_high [] = false
begins_high (c ∷ cs) = nat_lt 57 c

differ : (c k : ℕ) → nat_lt c 58 ≡ true → nat_lt 57 k ≡ true → eqb c k ≡ false
differ c k low high = grind (arith, nat_tests, low, high)

other_word : (expected word : List ℕ) → begins_high expected ≡ true → begins_low word ≡ true → is_word expected word ≡ false
other_word [] word high low = absurd (cc)
other_word (k ∷ ks) [] high low = absurd (cc)
other_word (k ∷ ks) (c ∷ cs) high low = rw (differ c k low high) refl

abbrev pub all_high : {A : Type 0} → Meanings A → Bool
all_high entries = list_all (λ entry. begins_high entry.0) entries

pub none_meant : {A : Type 0} (entries : Meanings A) (otherwise : A) (word : List ℕ) → all_high entries ≡ true → begins_low word ≡ true → meaning entries otherwise word ≡ otherwise
none_meant [] otherwise word high low = refl
none_meant (entry ∷ entries) otherwise word high low =
    let parts = both (begins_high entry.0) (all_high entries) high in
    rw (other_word entry.0 word parts.0 low) (none_meant entries otherwise word parts.1 low)

own : IsNumeralModel (λ word. all_ascii_digits word ≡ true) (digits_value 10)
own = numerals_by_value _ tells_all_ascii_digits

digits_low : (word : List ℕ) → 0 < length word → all_ascii_digits word ≡ true → (begins_low word ≡ true) × (begins_line word ≡ true)
digits_low [] some digits = absurd (omega (arith, some))
digits_low (c ∷ cs) some digits =
    let first : is_ascii_digit c ≡ true = (both (is_ascii_digit c) (all_ascii_digits cs) digits).0 in
    let other : eqb c 35 ≡ false = grind (arith, nat_tests, first) in
    (grind (arith, nat_tests, first), rw other refl)

pub decimal_low : (n : ℕ) → n < 2 ^ 64 → begins_low (decimal n) ≡ true
decimal_low n fits = (digits_low (decimal n) (decimal_nonempty n fits) (digits_decimal own n fits)).0

pub decimal_begins : (n : ℕ) → n < 2 ^ 64 → begins_line (decimal n) ≡ true
decimal_begins n fits = (digits_low (decimal n) (decimal_nonempty n fits) (digits_decimal own n fits)).1
