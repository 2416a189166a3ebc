-- Lists of which one element passes a test.
use Rattle.std.proofs.Common.{◌≡◌, ◌⊎◌, inl, inr, ◌≤◌, Bool, true, false, cond, ◌||◌, List, [], ◌∷◌, length, map, filter, find, Some, refl, sym, ◌∙◌, ap, arith}
use Rattle.std.specs.List.{list_any}
use Rattle.std.proofs.lemmas.Bool.{or_parts, or_right}
use Rattle.std.proofs.lemmas.Option.{same_Some}
use Rattle.base_lemmas.specs.Lists.{found_passes}
use Rattle.adapter_table.specs.Connections.{Row}
use Rattle.adapter_table.specs.Rows.{Each}
use Rattle.adapter_table.specs.EachLemmas.{each_weak}
use Rattle.adapter_table.specs.Lemmas.DriverLemmas.{none_counted}
use Rattle.adapter_table.specs.Lemmas.MessageLemmas.{found_any}

pub or_cases : (a b : Bool) → (a || b) ≡ true → (a ≡ true) ⊎ (b ≡ true)
or_cases true b is = inl refl
or_cases false b is = inr is

-- what holds is not kept from what did not hold
pub held_before : (was now : Bool) → now ≡ true → (was ≡ false → now ≡ false) → was ≡ true
held_before true now is keeps = refl
held_before false true is keeps = absurd (let e = keeps refl in cc)
held_before false false is keeps = is

pub none_mapped : {X : Type 0} → (s : X → Bool) (f : X → X) → ((x : X) → s x ≡ false → s (f x) ≡ false) → (xs : List X) → list_any s xs ≡ false → list_any s (map f xs) ≡ false
none_mapped s f keeps [] none = refl
none_mapped s f keeps (x ∷ xs) none =
    let parts = or_parts (s x) (list_any s xs) none in
    let first : s (f x) ≡ false = keeps x parts.0 in
    let rest : list_any s (map f xs) ≡ false = none_mapped s f keeps xs parts.1 in
    rw (first, rest) refl

pub any_mapped : {X : Type 0} → (s : X → Bool) (f : X → X) (xs : List X) → list_any s (map f xs) ≡ list_any (λ x. s (f x)) xs
any_mapped s f [] = refl
any_mapped s f (x ∷ xs) = ap (λ (b : Bool). s (f x) || b) (any_mapped s f xs)

-- one that passes is found
pub any_found : {X : Type 0} → (p : X → Bool) (xs : List X) → list_any p xs ≡ true → (x : X) × (find p xs ≡ Some x)
any_found p [] is = absurd (let e = is in cc)
any_found {X} p (first ∷ xs) is = by_first (p first) is (any_found p xs) where
  by_first : (b : Bool) → (b || list_any p xs) ≡ true → (list_any p xs ≡ true → (x : X) × (find p xs ≡ Some x)) → (x : X) × (cond b (Some first) (find p xs) ≡ Some x)
  by_first true passes more = (first, refl)
  by_first false passes more = more passes

pub any_weak : {X : Type 0} → (s q : X → Bool) → ((x : X) → s x ≡ true → q x ≡ true) → (xs : List X) → list_any s xs ≡ true → list_any q xs ≡ true
any_weak s q weak xs is =
    let found = any_found s xs is in
    found_any s q xs found.0 found.1 (weak found.0 (found_passes s xs found.0 found.1))

-- ---- the connection is among these

abbrev pub IsAmong : List Row → Row → Type 0
IsAmong rows row = (q : Row → Bool) → q row ≡ true → list_any q rows ≡ true

-- each is
pub each_among : (rows : List Row) → Each (IsAmong rows) rows
each_among [] = tt
each_among (row ∷ rows) = (
  λ q passes. rw passes refl,
  each_weak (IsAmong rows) (IsAmong (row ∷ rows)) (λ other among q passes. or_right (q row) (list_any q rows) (among q passes)) rows (each_among rows),
)

-- ---- the only connection that passes a test

none_more : (q : Row → Bool) (p : Row → Bool) (rows : List Row) (row : Row) → length (filter q rows) ≤ 0 → find p rows ≡ Some row → q row ≡ true → ⊥
none_more q p rows row few is passes = absurd (let e : true ≡ false = sym (found_any p q rows row is passes) ∙ none_counted q rows few in cc)

same_step : (a b : Bool) (p q : Row → Bool) (first row only : Row) (rows : List Row) → p first ≡ a → q first ≡ b → length (cond b (first ∷ filter q rows) (filter q rows)) ≤ 1 → cond a (Some first) (find p rows) ≡ Some row → q row ≡ true → cond b (Some first) (find q rows) ≡ Some only → (length (filter q rows) ≤ 1 → find p rows ≡ Some row → find q rows ≡ Some only → row ≡ only) → row ≡ only
same_step true true p q first row only rows a_is b_is few is passes is_only more = sym (same_Some first row is) ∙ same_Some first only is_only
same_step true false p q first row only rows a_is b_is few is passes is_only more =
    let same : first ≡ row = same_Some first row is in
    absurd (let e : true ≡ false = sym passes ∙ (ap q (sym same) ∙ b_is) in cc)
same_step false true p q first row only rows a_is b_is few is passes is_only more = absurd (none_more q p rows row (omega (arith, few)) is passes)
same_step false false p q first row only rows a_is b_is few is passes is_only more = more few is is_only

-- it is found, whatever else it is found by
pub same_found : (p q : Row → Bool) (rows : List Row) (row only : Row) → length (filter q rows) ≤ 1 → find p rows ≡ Some row → q row ≡ true → find q rows ≡ Some only → row ≡ only
same_found p q [] row only few is passes is_only = absurd (let e = is in cc)
same_found p q (first ∷ rows) row only few is passes is_only =
    same_step (p first) (q first) p q first row only rows refl refl few is passes is_only (λ fewer there there_only. same_found p q rows row only fewer there passes there_only)
