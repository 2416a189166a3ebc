-- Tests on numbers.
use Rattle.std.proofs.Common.{◌≡◌, ◌≢◌, ◌<◌, ℕ, true, false, not, ◌==◌, nat_le, arith}
use Rattle.std.proofs.lemmas.Bool.Decides.{nat_tests}

-- ---- equality

pub number_same : (n : ℕ) → (n == n) ≡ true
number_same n = grind (arith, nat_tests)

pub other_number : (a b : ℕ) → (a == b) ≡ false → (b == a) ≡ false
other_number a b other = grind (arith, nat_tests)

pub same_if_not : (a b : ℕ) → not (a == b) ≡ false → a ≡ b
same_if_not a b same = grind (arith, nat_tests)

pub not_same : (n m : ℕ) → not (n == m) ≡ true → n ≢ m
not_same n m other = λ same. grind (arith, nat_tests)

pub same_by : (a b c : ℕ) → (a == b) ≡ true → (b == c) ≡ true → (a == c) ≡ true
same_by a b c first second = grind (arith, nat_tests)

-- ---- order

pub less_other : (n m : ℕ) → n < m → (n == m) ≡ false
less_other n m less = grind (arith, nat_tests)

pub more_other : (m n : ℕ) → m < n → (n == m) ≡ false
more_other m n less = grind (arith, nat_tests)

pub not_yet : (early late : ℕ) → early < late → nat_le late early ≡ false
not_yet early late less = grind (arith, nat_tests)
