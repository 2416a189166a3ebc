-- Bytes that are put at the place of a point, which no other place has.
use Rattle.std.proofs.Common.{◌≡◌, ◌<◌, ◌≤◌, ℕ, ◌==◌, ◌||◌, not, Bool, true, false, cond, zero, suc, List, [], ◌∷◌, length, map, find, get_or, set, Some, None, nat_lt, refl, sym, ◌∙◌, ap, subst, true≢false, arith}
use Rattle.std.specs.List.{list_any, position, position_or_len}
use Rattle.std.proofs.lemmas.Bool.{not-true, and_parts, or_parts}
use Rattle.std.proofs.lemmas.Bool.Decides.{nat_tests, Decides-eqb}
use Rattle.cip_types.specs.Indices.{find_none}
use Rattle.adapter_table.specs.declared.table.PointValue.{PointValue}
use Rattle.adapter_table.specs.Profiles.{is_at, are_distinct}
use Rattle.adapter_table.specs.Points.{is_value_of, changed_value, put_value}
use Rattle.adapter_table.specs.Shapes.{shape_of}

pub same_of : (a b : ℕ) → a == b ≡ true → a ≡ b
same_of a b is = (Decides-eqb a b).0 is

unchanged : (point : ℕ) (bytes : List ℕ) (value : PointValue) → is_value_of point value ≡ false → changed_value point bytes value ≡ value
unchanged point bytes value is = rw is refl

none_put : (point : ℕ) (bytes : List ℕ) (values : List PointValue) → list_any (is_at point) (map shape_of values) ≡ false → put_value point bytes values ≡ values
none_put point bytes [] none = refl
none_put point bytes (value ∷ values) none =
    let parts = or_parts (is_value_of point value) (list_any (is_at point) (map shape_of values)) none in
    rw (unchanged point bytes value parts.0) (ap (λ (l : List PointValue). value ∷ l) (none_put point bytes values parts.1))

any_there : (point : ℕ) (values : List PointValue) (at : ℕ) (d : PointValue) → at < length values → is_value_of point (get_or values at d) ≡ true → list_any (is_at point) (map shape_of values) ≡ true
any_there point [] at d lt has = absurd (omega arith)
any_there point (value ∷ values) zero d lt has = rw has refl
any_there point (value ∷ values) (suc at) d lt has = split (is_value_of point value) (any_there point values at d (omega arith) has)
  where
    split : (b : Bool) → list_any (is_at point) (map shape_of values) ≡ true → (b || list_any (is_at point) (map shape_of values)) ≡ true
    split true there = refl
    split false there = there

-- the place of a point holds other bytes
pub put_there : (point : ℕ) (bytes : List ℕ) (values : List PointValue) (at : ℕ) (d : PointValue) → at < length values → is_value_of point (get_or values at d) ≡ true → are_distinct (map shape_of values) ≡ true → set values at (record (get_or values at d) { bytes = bytes }) ≡ put_value point bytes values
put_there point bytes [] at d lt has differ = absurd (omega arith)
put_there point bytes (value ∷ values) zero d lt has differ =
    let parts = and_parts (not (list_any (is_at value.point) (map shape_of values))) (are_distinct (map shape_of values)) differ in
    let none : list_any (is_at point) (map shape_of values) ≡ false = subst (λ (n : ℕ). list_any (is_at n) (map shape_of values) ≡ false) (same_of value.point point has) (not-true _ parts.0) in
    rw (has, none_put point bytes values none) refl
put_there point bytes (value ∷ values) (suc at) d lt has differ =
    let parts = and_parts (not (list_any (is_at value.point) (map shape_of values))) (are_distinct (map shape_of values)) differ in
    split (is_value_of point value) refl (not-true _ parts.0) (put_there point bytes values at d (omega arith) has parts.1)
  where
    split : (b : Bool) → is_value_of point value ≡ b → list_any (is_at value.point) (map shape_of values) ≡ false → set values at (record (get_or values at d) { bytes = bytes }) ≡ put_value point bytes values
        → value ∷ set values at (record (get_or values at d) { bytes = bytes }) ≡ changed_value point bytes value ∷ put_value point bytes values
    split true here none rest =
        let also : list_any (is_at point) (map shape_of values) ≡ false = subst (λ (n : ℕ). list_any (is_at n) (map shape_of values) ≡ false) (same_of value.point point here) none in
        absurd (true≢false (sym (any_there point values at d (omega arith) has) ∙ also))
    split false not_here none rest = rw (unchanged point bytes value not_here) (ap (λ (l : List PointValue). value ∷ l) rest)

none_found : (point : ℕ) (bytes : List ℕ) (values : List PointValue) → find (is_value_of point) values ≡ None → put_value point bytes values ≡ values
none_found point bytes [] none = refl
none_found point bytes (value ∷ values) none = split (is_value_of point value) refl (none_found point bytes values)
  where
    split : (b : Bool) → is_value_of point value ≡ b → (find (is_value_of point) values ≡ None → put_value point bytes values ≡ values) → changed_value point bytes value ∷ put_value point bytes values ≡ value ∷ values
    split true here rest = let some : find (is_value_of point) (value ∷ values) ≡ Some value = ap (λ b. cond b (Some value) (find (is_value_of point) values)) here in absurd cc
    split false fails rest = rw (unchanged point bytes value fails) (ap (λ (l : List PointValue). value ∷ l) (rest (sym (ap (λ b. cond b (Some value) (find (is_value_of point) values)) fails) ∙ none)))

-- without a place nothing is put
pub none_placed : (point : ℕ) (bytes : List ℕ) (values : List PointValue) → position (is_value_of point) values ≡ None → put_value point bytes values ≡ values
none_placed point bytes values none =
    none_found point bytes values (find_none (is_value_of point) values (position_or_len (is_value_of point) values) refl (past (nat_lt (position_or_len (is_value_of point) values) (length values)) refl none))
  where
    past : (b : Bool) → nat_lt (position_or_len (is_value_of point) values) (length values) ≡ b → cond b (Some (position_or_len (is_value_of point) values)) None ≡ None → length values ≤ position_or_len (is_value_of point) values
    past true is h = absurd cc
    past false is h = grind (arith, nat_tests)
