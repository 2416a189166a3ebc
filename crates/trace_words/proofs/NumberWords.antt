-- Numbers as words.
use Rattle.std.proofs.Common.{◌≡◌, ◌≢◌, ℕ, ◌<◌, ◌≤◌, ◌^◌, Bool, true, false, cond, List, [], ◌∷◌, length, get_or, Option, Some, None, Result, Ok, Err, refl, sym, ap, ◌∙◌, arith}
use Rattle.std.specs.Prelude.{◌&&◌, nat_lt}
use Rattle.std.specs.Result.{result_ok, OkIff}
use Rattle.std.specs.Str.{all_ascii_digits}
use Rattle.std.specs.Str.Parse.{ParsesUnsigned, digits_value}
use Rattle.std.proofs.lemmas.Bool.Decides.{nat_tests}
use Rattle.std.proofs.lemmas.Str.Parse.{IsNumeralModel, numerals_by_value, tells_all_ascii_digits, parse_plain}
use Rattle.trace_words.specs.Words.{number_of, is_short_form, is_numeral}

own : IsNumeralModel (λ word. all_ascii_digits word ≡ true) (digits_value 10)
own = numerals_by_value _ tells_all_ascii_digits

no_plus : (word : List ℕ) → is_short_form word ≡ true → get_or word 0 0 ≢ 43
no_plus [] s = omega arith
no_plus (c ∷ cs) s = grind (arith, nat_tests)

below : (m n : ℕ) → m < n → nat_lt m n ≡ true
below m n less = grind (arith, nat_tests)

all_hold : {A : Type 0} (s d l f : Bool) (x : Option A) → s ≡ true → d ≡ true → l ≡ true → f ≡ true → cond ((s && (d && l)) && f) x None ≡ x
all_hold s d l f x sh dh lh fh = rw (sh, dh, lh, fh) refl

one_fails : {A : Type 0} (s d : Bool) (m n v w : ℕ) (x : Option A) → ¬ ((d ≡ true) × (m < n) × (v < w)) → cond ((s && (d && nat_lt m n)) && nat_lt v w) x None ≡ None
one_fails false d m n v w x none = refl
one_fails true false m n v w x none = refl
one_fails true true m n v w x none = grind (arith, nat_tests)

pub number_parsed : {E : Type 0} (word : List ℕ) (r : Result ℕ E) → ParsesUnsigned 64 10 word r → is_short_form word ≡ true → result_ok r ≡ number_of 64 word
unfolding number_of
number_parsed {E} word (Ok n) h s =
    let p = parse_plain own {E = E} 64 word (Ok n) h (no_plus word s) in
    sym (all_hold _ _ _ _ (Some (digits_value 10 word)) s p.0.0 (below _ _ p.0.1) (below _ _ p.0.2) ∙ ap Some (sym p.1))
number_parsed {E} word (Err e) h s =
    let p = parse_plain own {E = E} 64 word (Err e) h (no_plus word s) in
    sym (one_fails (is_short_form word) (all_ascii_digits word) 0 (length word) (digits_value 10 word) (2 ^ 64) (Some (digits_value 10 word)) p)

pub not_short : (bits : ℕ) (word : List ℕ) → is_short_form word ≡ false → None ≡ number_of bits word
unfolding number_of
not_short bits word s = rw s refl

narrow : (b : Bool) (v n wide w : ℕ) → w ≤ wide → cond (b && nat_lt v wide) (Some v) None ≡ Some n → cond (b && nat_lt v w) (Some v) None ≡ cond (nat_lt n w) (Some n) None
narrow false v n wide w small found = absurd (cc)
narrow true v n wide w small found = grind (arith, nat_tests)

narrow_none : (b : Bool) (v wide w : ℕ) → w ≤ wide → cond (b && nat_lt v wide) (Some v) None ≡ None → cond (b && nat_lt v w) (Some v) None ≡ None
narrow_none false v wide w small found = refl
narrow_none true v wide w small found = grind (arith, nat_tests)

judged : {E : Type 0} (n w : ℕ) (r : Result ℕ E) → OkIff r (n < w) n → result_ok r ≡ cond (nat_lt n w) (Some n) None
judged n w (Ok m) h = grind (arith, nat_tests)
judged n w (Err e) h = grind (arith, nat_tests)

pub narrowed : {E : Type 0} (bits : ℕ) (word : List ℕ) (n : ℕ) (r : Result ℕ E) → 2 ^ bits ≤ 2 ^ 64 → Some n ≡ number_of 64 word → OkIff r (n < 2 ^ bits) n → result_ok r ≡ number_of bits word
unfolding number_of
narrowed bits word n r small found h = judged n (2 ^ bits) r h ∙ sym (narrow (is_numeral word) (digits_value 10 word) n (2 ^ 64) (2 ^ bits) small (sym found))

pub none_narrowed : (bits : ℕ) (word : List ℕ) → 2 ^ bits ≤ 2 ^ 64 → None ≡ number_of 64 word → None ≡ number_of bits word
unfolding number_of
none_narrowed bits word small found = sym (narrow_none (is_numeral word) (digits_value 10 word) (2 ^ 64) (2 ^ bits) small (sym found))
