-- One device more is looked at.
use Rattle.std.proofs.Common.{◌≡◌, ◌<◌, ◌+◌, nat_lt, ℕ, Bool, true, false, cond, List, slice_index, Option, Some, None, refl, arith, below_more}
use Rattle.std.proofs.lemmas.Bool.Decides.{nat_tests}
use Rattle.settling.specs.Search.Lowest.{IsLowest, lower_of}

pub lowest_done : (P : ℕ → Type 0) (Q : ℕ → ℕ → Type 0) (bytes : List ℕ) (n : ℕ) (best : Option (ℕ × ℕ)) → IsLowest P Q bytes n best → P n → IsLowest P Q bytes (n + 1) best
lowest_done P Q bytes n None is done = below_more P n is done
lowest_done P Q bytes n (Some p) is done = (is.0, omega (arith, is.1), below_more (λ i. slice_index bytes i < slice_index bytes p.0 → P i) n is.2 (λ lt. done))

-- whether the other find is at a lower byte
lower_than : (bytes : List ℕ) (p q : ℕ × ℕ) (b : Bool) → nat_lt (slice_index bytes q.0) (slice_index bytes p.0) ≡ b → lower_of bytes (Some p) q ≡ cond b q p
lower_than bytes p q b is = rw is refl

found_of : (P : ℕ → Type 0) (Q : ℕ → ℕ → Type 0) (bytes : List ℕ) (n k : ℕ) (p : ℕ × ℕ) (b : Bool) → nat_lt (slice_index bytes n) (slice_index bytes p.0) ≡ b → IsLowest P Q bytes n (Some p) → Q n k → IsLowest P Q bytes (n + 1) (Some (cond b (n, k) p))
found_of P Q bytes n k p true lower is found =
    (found, omega arith, below_more (λ i. slice_index bytes i < slice_index bytes n → P i) n (λ i lt less. is.2 i lt (grind (arith, nat_tests, lower, less))) (λ less. absurd (omega (arith, less))))
found_of P Q bytes n k p false lower is found =
    (is.0, omega (arith, is.1), below_more (λ i. slice_index bytes i < slice_index bytes p.0 → P i) n is.2 (λ less. absurd (grind (arith, nat_tests, lower, less))))

pub lowest_found : (P : ℕ → Type 0) (Q : ℕ → ℕ → Type 0) (bytes : List ℕ) (n k : ℕ) (best : Option (ℕ × ℕ)) → IsLowest P Q bytes n best → Q n k → IsLowest P Q bytes (n + 1) (Some (lower_of bytes best (n, k)))
lowest_found P Q bytes n k None is found = (found, omega arith, below_more (λ i. slice_index bytes i < slice_index bytes n → P i) n (λ i lt less. is i lt) (λ less. absurd (omega (arith, less))))
lowest_found P Q bytes n k (Some p) is found = rw (lower_than bytes p (n, k) (nat_lt (slice_index bytes n) (slice_index bytes p.0)) refl) (found_of P Q bytes n k p (nat_lt (slice_index bytes n) (slice_index bytes p.0)) refl is found)
