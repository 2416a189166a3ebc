-- Numbers are written in ASCII, so a text that is no UTF-8 has none.
use Rattle.std.proofs.Common.{zero, suc, ◌≡◌, ℕ, ◌<◌, ◌^◌, Bool, true, false, List, [], ◌∷◌, length, get_or, Option, Some, None, refl, arith, cond}
use Rattle.std.specs.Prelude.{IsUtf8, nat_lt, ◌&&◌}
use Rattle.std.specs.Str.{all_ascii_digits}
use Rattle.std.specs.Str.Parse.{digits_value}
use Rattle.std.proofs.lemmas.Str.{IsUtf8-from_ascii}
use Rattle.std.proofs.lemmas.Str.Parse.{tells_all_ascii_digits}
use Rattle.trace_words.specs.Words.{is_short_form, number_of}

digits_ascii : (word : List ℕ) → all_ascii_digits word ≡ true → (i : ℕ) → get_or word i 0 < 128
digits_ascii [] digits i = omega arith
digits_ascii (c ∷ cs) digits zero = let parts = tells_all_ascii_digits.parts c cs digits in omega (arith, parts.0.1)
digits_ascii (c ∷ cs) digits (suc i) = digits_ascii cs (tells_all_ascii_digits.parts c cs digits).1 i

not_digits : (word : List ℕ) (are : Bool) → all_ascii_digits word ≡ are → ¬ (IsUtf8 word) → are ≡ false
not_digits word false is none = refl
not_digits word true is none = absurd (none (IsUtf8-from_ascii word (digits_ascii word is)))

falls : {A : Type 0} (s d l f : Bool) (x : Option A) → d ≡ false → None ≡ cond ((s && (d && l)) && f) x None
falls false d l f x is = refl
falls true d l f x is = rw is refl

pub unread : (word : List ℕ) → ¬ (IsUtf8 word) → None ≡ number_of 64 word
unfolding number_of
unread word none = falls (is_short_form word) (all_ascii_digits word) (nat_lt 0 (length word)) (nat_lt (digits_value 10 word) (2 ^ 64)) (Some (digits_value 10 word)) (not_digits word (all_ascii_digits word) refl none)
