-- The words of a line, one after the other.
use Rattle.std.proofs.Common.{◌≡◌, ◌≢◌, ℕ, ◌<◌, eqb, false, List, [], ◌∷◌, length, get_or, Option, Some, None, ap, ◌∙◌, subst, arith}
use Rattle.std.specs.Prelude.{All}
use Rattle.std.specs.Borrow.{Bor}
use Rattle.std.specs.List.{slice_split}
use Rattle.std.proofs.lemmas.Bool.Decides.{nat_tests}
use Rattle.std.proofs.lemmas.List.Splits.{slice_split_none, slice_split_at, length-slice_split}
use Rattle.std.proofs.lemmas.List.Elements.{All-from_get_or}
use Rattle.std.proofs.lemmas.Str.Pattern.{IsSplitOnceResult, split_parts}

none_within : (at : ℕ) (line : List ℕ) → ((i : ℕ) → i < length line → get_or line i 0 ≢ at) → All (λ byte. eqb byte at ≡ false) line
none_within at line none = All-from_get_or (λ byte. eqb byte at ≡ false) line 0 (λ i below. let apart = none i below in grind (arith, nat_tests))

-- the part in front of the first such byte
pub first_part : (at : ℕ) (line : List ℕ) (r : Option (Bor (List ℕ) × Bor (List ℕ))) (word after : Bor (List ℕ)) → at < 128 → r ≡ Some (word, after) → IsSplitOnceResult at line r → slice_split (λ byte. eqb byte at) line ≡ word.now ∷ slice_split (λ byte. eqb byte at) after.now
first_part at line r word after ascii is h =
    let p = split_parts at line (Some (word, after)) (subst (IsSplitOnceResult at line) is h) ascii in
    ap (slice_split (λ byte. eqb byte at)) p.0 ∙ slice_split_at (λ byte. eqb byte at) word.now at after.now (none_within at word.now p.1) (grind (arith, nat_tests))

-- there is no such byte
pub only_part : (at : ℕ) (line : List ℕ) (r : Option (Bor (List ℕ) × Bor (List ℕ))) → at < 128 → r ≡ None → IsSplitOnceResult at line r → slice_split (λ byte. eqb byte at) line ≡ line ∷ []
only_part at line r ascii is h = let p = split_parts at line None (subst (IsSplitOnceResult at line) is h) ascii in slice_split_none (λ byte. eqb byte at) line (none_within at line p)

pub some_word : (line : List ℕ) → slice_split (λ byte. eqb byte 32) line ≢ []
some_word line none =
    let count = length-slice_split (λ byte. eqb byte 32) line in
    absurd (omega (arith, count, ap length none))
