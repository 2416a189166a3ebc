-- Lists of attributes, one attribute after another.
use Rattle.std.proofs.Common.{◌≡◌, ℕ, ◌≤◌, ◌-◌, ◌==◌, zero, suc, true, false, List, [], ◌∷◌, ◌++◌, length, drop, find, refl, ap, arith}
use Rattle.std.proofs.lemmas.Bool.{eqb-true}
use Rattle.adapter_table.specs.Objects.{Attribute, behind_value, is_numbered, set_item, set_items, set_status, value_len, word_of}

-- the next one of at most so many that are to be set
pub set_more : (attributes : List Attribute) (count low high : ℕ) (rest : List ℕ) → (count == 0) ≡ false → set_items attributes count (low ∷ high ∷ rest) ≡ set_item (word_of low high) (set_status rest (value_len (find (is_numbered (word_of low high)) attributes))) ++ set_items attributes (count - 1) (behind_value rest (value_len (find (is_numbered (word_of low high)) attributes)))
set_more attributes zero low high rest is = absurd (let e = is in cc)
set_more attributes (suc count) low high rest is =
    let fewer : count ≡ suc count - 1 = omega arith in
    ap (λ (n : ℕ). set_item (word_of low high) (set_status rest (value_len (find (is_numbered (word_of low high)) attributes))) ++ set_items attributes n (behind_value rest (value_len (find (is_numbered (word_of low high)) attributes)))) fewer

-- and none, if there are none
pub set_none : (attributes : List Attribute) (count : ℕ) (body : List ℕ) → (count == 0) ≡ true → set_items attributes count body ≡ []
set_none attributes zero [] is = refl
set_none attributes zero (low ∷ []) is = refl
set_none attributes zero (low ∷ high ∷ rest) is = refl
set_none attributes (suc count) body is = absurd (omega (arith, eqb-true (suc count) 0 is))

-- behind a value that is not there is nothing
pub nothing_behind : (len : ℕ) (bytes : List ℕ) → length bytes ≤ len → drop len bytes ≡ []
nothing_behind zero [] few = refl
nothing_behind zero (byte ∷ bytes) few = absurd (omega (arith, few))
nothing_behind (suc len) [] few = refl
nothing_behind (suc len) (byte ∷ bytes) few = nothing_behind len bytes (omega (arith, few))
