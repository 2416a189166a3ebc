-- Where there are bytes enough, the numbers at the front are those at their places; where there are too few,
-- there are none. And what is appended part by part is the parts, one after the other.
use Rattle.std.proofs.Common.{◌≡◌, ℕ, ◌+◌, ◌<◌, ◌≤◌, List, [], ◌∷◌, ◌++◌, append_assoc, length, take, drop, Some, None, refl, ap, ◌∙◌, arith, inl, inr, length-drop}
use Rattle.std.specs.Int.{Width, w8, w16, w32, w64, w128, byte_len, from_le_bytes}
use Rattle.std.proofs.lemmas.Bool.{cases_lt, lt-ltb, le-ltb}
use Rattle.std.proofs.lemmas.List.{get_or-drop, get_or-take, drop-drop}
use Rattle.cip_types.specs.Fields.{field_at, fields_at}
use Rattle.cip_types.specs.Parts.{fields_len, number_in, numbers_in}

number_is : (w : Width) (bs : List ℕ) (at : ℕ) → from_le_bytes w (take (byte_len w) (drop at bs)) ≡ number_in w bs at
number_is w8 bs at = let same : at + 0 ≡ at = omega arith in rw (get_or-take 1 (drop at bs) 0 0 (omega arith), get_or-drop, same) refl
number_is w16 bs at = refl
number_is w32 bs at = refl
number_is w64 bs at = refl
number_is w128 bs at = refl

field_stands : (w : Width) (bs : List ℕ) (at : ℕ) → at + byte_len w ≤ length bs → field_at w (drop at bs) ≡ Some (number_in w bs at, drop (at + byte_len w) bs)
field_stands w bs at long =
    rw (le-ltb (length (drop at bs)) (byte_len w) (omega (arith, length-drop at bs)), number_is w bs at, drop-drop (byte_len w) at bs) refl

fields_from : (ws : List Width) (bs : List ℕ) (at : ℕ) → at + fields_len ws ≤ length bs → fields_at ws (drop at bs) ≡ Some (numbers_in ws bs at, drop (at + fields_len ws) bs)
fields_from [] bs at long = let same : at + 0 ≡ at = omega arith in rw same refl
fields_from (w ∷ ws) bs at long =
    let sum : at + byte_len w + fields_len ws ≡ at + (byte_len w + fields_len ws) = omega arith in
    rw (field_stands w bs at (omega arith), fields_from ws bs (at + byte_len w) (omega arith), sum) refl

-- bytes enough
pub fields_stand : (ws : List Width) (bs : List ℕ) → fields_len ws ≤ length bs → fields_at ws bs ≡ Some (numbers_in ws bs 0, drop (fields_len ws) bs)
fields_stand ws bs long =
    let sum : 0 + fields_len ws ≡ fields_len ws = omega arith in
    fields_from ws bs 0 (omega arith) ∙ ap (λ (n : ℕ). Some (numbers_in ws bs 0, drop n bs)) sum

-- too few bytes
pub fields_few : (ws : List Width) (bs : List ℕ) → length bs < fields_len ws → fields_at ws bs ≡ None
fields_few [] bs few = absurd (omega arith)
fields_few (w ∷ ws) bs few =
    elim (cases_lt (length bs) (byte_len w)) [
      | inl lt ↦ rw (lt-ltb _ _ lt) refl
      | inr le ↦ rw (le-ltb (length bs) (byte_len w) le, fields_few ws (drop (byte_len w) bs) (omega (arith, length-drop (byte_len w) bs))) refl
    ]

-- ---- texts that are appended part by part

-- what is appended first stands in front of what is appended then
pub appended : (old new end part rest : List ℕ) → new ≡ old ++ part → end ≡ new ++ rest → end ≡ old ++ (part ++ rest)
appended old new end part rest first then = then ∙ ap (λ (x : List ℕ). x ++ rest) first ∙ append_assoc old part rest
