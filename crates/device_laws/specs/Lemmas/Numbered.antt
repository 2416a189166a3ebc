-- The numbers of connection ids: where an id is that of a number within a range, and that no two ranges share one.
use Rattle.std.proofs.Common.{zero, suc, ◌≡◌, ◌≤◌, ◌<◌, ℕ, ◌+◌, ◌-◌, ◌==◌, ◌||◌, Bool, true, false, cond, inl, inr, List, refl, sym, ◌∙◌, ap, arith, eqb-true}
use Rattle.std.proofs.lemmas.Bool.{cases_lt}
use Rattle.std.proofs.lemmas.Bool.Decides.{nat_tests}
use Rattle.cip_types.specs.IdLaws.{ids_differ}
use Rattle.cip_types.specs.Ids.{are_blocks, end_number, id_at}
use Rattle.cip_types.specs.declared.ids.IdBlock.{IdBlock}
use Rattle.device_laws.specs.Requests.{has_number, is_between}

-- the number of the id is from the first on and below the second
pub record IsNumbered (ids : List IdBlock) (from to id : ℕ) : Type 0 where
  pub number : ℕ
  pub begins : from ≤ number
  pub ends : number < to
  pub is : (id_at ids number).0 ≡ id

-- ---- the test

pub or_here : (a b : Bool) → a ≡ true → (a || b) ≡ true
or_here true b is = refl
or_here false b is = absurd cc

pub or_later : (a b : Bool) → b ≡ true → (a || b) ≡ true
or_later true b is = refl
or_later false b is = is

pub same_passes : (m n : ℕ) → m ≡ n → (m == n) ≡ true
same_passes m n same = grind (arith, nat_tests)

first_numbered : (b : Bool) (ids : List IdBlock) (from count id : ℕ) (rest : Bool) → ((id_at ids from).0 == id) ≡ b → (rest ≡ true → IsNumbered ids (from + 1) (from + 1 + count) id) → (b || rest) ≡ true → IsNumbered ids from (from + suc count) id
first_numbered true ids from count id rest is later has = record { number = from; begins = omega arith; ends = omega arith; is = eqb-true (id_at ids from).0 id is }
first_numbered false ids from count id rest is later has =
    let behind = later has in
    let begins = behind.begins in
    let ends = behind.ends in
    record { number = behind.number; begins = omega (arith, begins); ends = omega (arith, ends); is = behind.is }

numbered : (ids : List IdBlock) (from count id : ℕ) → has_number ids from count id ≡ true → IsNumbered ids from (from + count) id
numbered ids from zero id has = absurd cc
numbered ids from (suc count) id has =
    first_numbered ((id_at ids from).0 == id) ids from count id (has_number ids (from + 1) count id) refl (λ later. numbered ids (from + 1) count id later) has

there : (ids : List IdBlock) (from count id number : ℕ) → from ≤ number → number < from + count → (id_at ids number).0 ≡ id → has_number ids from count id ≡ true
there ids from zero id number begins ends is = absurd (omega (arith, begins, ends))
there ids from (suc count) id number begins ends is = elim (cases_lt from number) [
  | inl more ↦ or_later ((id_at ids from).0 == id) (has_number ids (from + 1) count id) (there ids (from + 1) count id number (omega (arith, more)) (omega (arith, ends)) is)
  | inr within ↦
      let same : number ≡ from = omega (arith, begins, within) in
      or_here ((id_at ids from).0 == id) (has_number ids (from + 1) count id) (same_passes (id_at ids from).0 id (ap (λ (n : ℕ). (id_at ids n).0) (sym same) ∙ is))
]

pub between_numbered : (ids : List IdBlock) (from to id : ℕ) → is_between ids from to id ≡ true → IsNumbered ids from to id
unfolding is_between
between_numbered ids from to id has =
    let found = numbered ids from (to - from) id has in
    let begins = found.begins in
    let ends = found.ends in
    record { number = found.number; begins = found.begins; ends = omega (arith, begins, ends); is = found.is }

pub numbered_between : (ids : List IdBlock) (from to id : ℕ) → IsNumbered ids from to id → is_between ids from to id ≡ true
unfolding is_between
numbered_between ids from to id is =
    let begins = is.begins in
    let ends = is.ends in
    there ids from (to - from) id is.number begins (omega (arith, begins, ends)) is.is

-- ---- two ranges

-- an id has one number
pub one_number : (ids : List IdBlock) (m n : ℕ) → are_blocks ids ≡ true → 1 ≤ m → m < end_number ids → 1 ≤ n → n < end_number ids → (id_at ids m).0 ≡ (id_at ids n).0 → m ≡ n
one_number ids m n are m_begins m_ends n_begins n_ends same = ids_differ ids m n are m_begins (omega (arith, m_ends)) n_begins (omega (arith, n_ends)) same

pub apart_ranges : (ids : List IdBlock) (a b c id : ℕ) → are_blocks ids ≡ true → 1 ≤ a → c ≤ end_number ids → IsNumbered ids a b id → IsNumbered ids b c id → ⊥
apart_ranges ids a b c id are one within first second =
    let first_begins = first.begins in
    let first_ends = first.ends in
    let second_begins = second.begins in
    let second_ends = second.ends in
    let same : first.number ≡ second.number =
    one_number ids first.number second.number are (omega (arith, one, first_begins)) (omega (arith, first_ends, second_begins, second_ends, within)) (omega (arith, one, first_begins, first_ends, second_begins)) (omega (arith, second_ends, within))
    (first.is ∙ sym second.is) in
    absurd (omega (arith, first_ends, second_begins, same))

wider : (ids : List IdBlock) (a b c d id : ℕ) → a ≤ b → c ≤ d → IsNumbered ids b c id → IsNumbered ids a d id
wider ids a b c d id first last is =
    let begins = is.begins in
    let ends = is.ends in
    record { number = is.number; begins = omega (arith, first, begins); ends = omega (arith, last, ends); is = is.is }

both_counted : (x y z : Bool) → (x ≡ true → y ≡ true → ⊥) → (x ≡ true → z ≡ true) → (y ≡ true → z ≡ true) → cond x 1 0 + cond y 1 0 ≤ cond z 1 0
both_counted true true z apart first second = absurd (apart refl refl)
both_counted true false z apart first second = let is = first refl in rw is (omega arith)
both_counted false true z apart first second = let is = second refl in rw is (omega arith)
both_counted false false z apart first second = omega arith

-- an id is of one of two ranges, where they follow one another
pub between_more : (ids : List IdBlock) (a b c id : ℕ) → are_blocks ids ≡ true → 1 ≤ a → c ≤ end_number ids → a ≤ b → b ≤ c → cond (is_between ids a b id) 1 0 + cond (is_between ids b c id) 1 0 ≤ cond (is_between ids a c id) 1 0
between_more ids a b c id are one within first last =
    both_counted (is_between ids a b id) (is_between ids b c id) (is_between ids a c id)
    (λ x y. apart_ranges ids a b c id are one within (between_numbered ids a b id x) (between_numbered ids b c id y))
    (λ x. numbered_between ids a c id (wider ids a a b c id (omega arith) last (between_numbered ids a b id x)))
    (λ y. numbered_between ids a c id (wider ids a b c c id first (omega arith) (between_numbered ids b c id y)))
