-- The parts of a list of bytes, one after the other.
use Rattle.std.proofs.Common.{◌≡◌, ◌≢◌, ℕ, ◌+◌, ◌<◌, Bool, true, false, cond, ltb, get_or, List, [], ◌∷◌, length, take, drop, Some, None, refl, ap, ◌∙◌, arith}
use Rattle.std.specs.Prelude.{position}
use Rattle.std.specs.List.{position_or_len, slice_split}
use Rattle.std.proofs.lemmas.Bool.Decides.{nat_tests}
use Rattle.std.proofs.lemmas.List.Sums.{fails_before_first}
use Rattle.std.proofs.lemmas.List.Elements.{All-from_get_or}
use Rattle.std.proofs.lemmas.List.Splits.{slice_split_first, slice_split_none, length-slice_split}

chosen : {X : Type 0} (b : Bool) (n i : X) → cond b (Some n) None ≡ Some i → (b ≡ true) × (n ≡ i)
chosen true n i e = (refl, cc)
chosen false n i e = absurd (cc)

unchosen : (b : Bool) (n : ℕ) → cond b (Some n) None ≡ None → b ≡ false
unchosen true n e = absurd (cc)
unchosen false n e = refl

-- the first byte that ends a part stands between it and the rest
pub first_part : (ends : ℕ → Bool) (bytes : List ℕ) (i : ℕ) → position ends bytes ≡ Some i → slice_split ends bytes ≡ take i bytes ∷ slice_split ends (drop (i + 1) bytes)
first_part ends bytes i found =
    let at = chosen _ _ _ found in
    let within : position_or_len ends bytes < length bytes = grind (arith, nat_tests, at.0) in
    slice_split_first ends bytes 0 within ∙ ap (λ n. take n bytes ∷ slice_split ends (drop (n + 1) bytes)) at.1

-- where there is none, all is one part
pub last_part : (ends : ℕ → Bool) (bytes : List ℕ) → position ends bytes ≡ None → slice_split ends bytes ≡ bytes ∷ []
last_part ends bytes none =
    let past : ltb (position_or_len ends bytes) (length bytes) ≡ false = unchosen _ _ none in
    let none_before : (k : ℕ) → k < length bytes → ends (get_or bytes k 0) ≡ false = λ k below. fails_before_first ends bytes k 0 (grind (arith, nat_tests, past)) in
    slice_split_none ends bytes (All-from_get_or (λ byte. ends byte ≡ false) bytes 0 none_before)

-- there is always a part
pub some_part : (ends : ℕ → Bool) (bytes : List ℕ) → slice_split ends bytes ≢ []
some_part ends bytes none = absurd (omega (arith, length-slice_split ends bytes, ap length none))
