-- Fields cut from a word by shifts and masks, and put together by shifts and `|`.
use Rattle.std.proofs.Common.{◌≡◌, ℕ, zero, suc, ◌+◌, ◌*◌, ◌/◌, ◌%◌, ◌<◌, ◌≤◌, ◌^◌, Bool, true, false, eqb, bit_and, bit_or, arith, refl, sym, ◌∙◌, inl, inr}
use Rattle.std.specs.Int.{from_bool}
use Rattle.std.proofs.lemmas.Nat.{and_mask}
use Rattle.std.proofs.lemmas.Bool.{cases_Bool, eqb-true, eqb-false}
use Rattle.std.proofs.lemmas.Grind.{or_before_shift, low_zeros}

pub flag_below : (b : Bool) → from_bool b < 2
flag_below true = omega arith
flag_below false = omega arith

-- a bit that is 1, as a flag
pub flag_of_bit : (n : ℕ) → n < 2 → from_bool (eqb n 1) ≡ n
flag_of_bit n lt =
    elim (cases_Bool (eqb n 1)) [
      | inl t ↦ let one = eqb-true n 1 t in rw t (omega arith)
      | inr f ↦ let other = eqb-false n 1 f in rw f (omega arith)
    ]

-- the lowest bit, as a flag
pub flag_of_low : (n : ℕ) → from_bool (eqb (bit_and n 1) 1) ≡ n % 2
flag_of_low n = rw (and_mask n 1) (flag_of_bit (n % 2) (omega arith))

-- a byte but for its highest bit
pub low_bits_are : (byte n : ℕ) → bit_and byte 127 ≡ n → byte % 128 ≡ n
low_bits_are byte n h = sym (and_mask byte 7) ∙ h

-- the bits of a trigger byte but for its direction
pub trigger_is : (byte n : ℕ) → byte < 256 → bit_and byte 127 ≡ n → (x : ℕ) × (x < 2) × (byte ≡ n + 128 * x)
trigger_is byte n lt h = let e = low_bits_are byte n h in (byte / 128, omega arith, omega arith)

-- ---- fields put together

-- one more field above those that stand
or_into : (b x c : ℕ) → c ≡ 2 ^ low_zeros 128 c → b < c → x * c < 2 ^ 32 → bit_or b (x * c % 2 ^ 32) ≡ b + c * x
or_into b x c pow lt fits = let e = or_before_shift b x c (2 ^ 32) pow lt fits in omega (arith, e)

pub or_16 : (s v p k r : ℕ) → s < 512 → v < 2 → p < 4 → k < 4 → r < 2
    → bit_or (bit_or (bit_or (bit_or s (v * 512 % 2 ^ 32)) (p * 1024 % 2 ^ 32)) (k * 8192 % 2 ^ 32)) (r * 32768 % 2 ^ 32) ≡ s + 512 * v + 1024 * p + 8192 * k + 32768 * r
or_16 s v p k r sl vl pl kl rl =
    let a = or_into s v 512 refl (omega arith) (omega arith) in
    let b = or_into (s + 512 * v) p 1024 refl (omega arith) (omega arith) in
    let c = or_into (s + 512 * v + 1024 * p) k 8192 refl (omega arith) (omega arith) in
    let d = or_into (s + 512 * v + 1024 * p + 8192 * k) r 32768 refl (omega arith) (omega arith) in
    rw (a, b, c, d) refl

pub or_32 : (s v p k r : ℕ) → s < 65536 → v < 2 → p < 4 → k < 4 → r < 2
    → bit_or (bit_or (bit_or (bit_or s (v * 2 ^ 25 % 2 ^ 32)) (p * 2 ^ 26 % 2 ^ 32)) (k * 2 ^ 29 % 2 ^ 32)) (r * 2 ^ 31 % 2 ^ 32) ≡ s + 2 ^ 25 * v + 2 ^ 26 * p + 2 ^ 29 * k + 2 ^ 31 * r
or_32 s v p k r sl vl pl kl rl =
    let a = or_into s v (2 ^ 25) refl (omega arith) (omega arith) in
    let b = or_into (s + 2 ^ 25 * v) p (2 ^ 26) refl (omega arith) (omega arith) in
    let c = or_into (s + 2 ^ 25 * v + 2 ^ 26 * p) k (2 ^ 29) refl (omega arith) (omega arith) in
    let d = or_into (s + 2 ^ 25 * v + 2 ^ 26 * p + 2 ^ 29 * k) r (2 ^ 31) refl (omega arith) (omega arith) in
    rw (a, b, c, d) refl

-- ---- fields cut out

-- the fields of a word of 16 bits
pub fields_16 : (w s v p x k r : ℕ) → s < 512 → v < 2 → p < 4 → x < 2 → k < 4 → r < 2 → w ≡ s + 512 * v + 1024 * p + 4096 * x + 8192 * k + 32768 * r
    → (s ≡ w % 512) × (v ≡ w / 512 % 2) × (p ≡ w / 1024 % 4) × (k ≡ w / 8192 % 4) × (r ≡ w / 32768 % 2)
fields_16 w s v p x k r sl vl pl xl kl rl e = (omega arith, omega arith, omega arith, omega arith, omega arith)

-- the fields of a word of 32 bits
pub fields_32 : (w s l v p x k r : ℕ) → s < 65536 → l < 512 → v < 2 → p < 4 → x < 2 → k < 4 → r < 2 → w ≡ s + 2 ^ 16 * l + 2 ^ 25 * v + 2 ^ 26 * p + 2 ^ 28 * x + 2 ^ 29 * k + 2 ^ 31 * r
    → (s ≡ w % 65536) × (v ≡ w / 2 ^ 25 % 2) × (p ≡ w / 2 ^ 26 % 4) × (k ≡ w / 2 ^ 29 % 4) × (r ≡ w / 2 ^ 31 % 2)
fields_32 w s l v p x k r sl ll vl pl xl kl rl e = (omega arith, omega arith, omega arith, omega arith, omega arith)

-- a word is the sum of its fields
pub sum_16 : (w : ℕ) → w < 65536 → w ≡ w % 512 + 512 * (w / 512 % 2) + 1024 * (w / 1024 % 4) + 4096 * (w / 4096 % 2) + 8192 * (w / 8192 % 4) + 32768 * (w / 32768)
sum_16 w lt = omega arith

pub sum_32 : (w : ℕ) → w < 2 ^ 32 → w ≡ w % 65536 + 2 ^ 16 * (w / 2 ^ 16 % 512) + 2 ^ 25 * (w / 2 ^ 25 % 2) + 2 ^ 26 * (w / 2 ^ 26 % 4) + 2 ^ 28 * (w / 2 ^ 28 % 2) + 2 ^ 29 * (w / 2 ^ 29 % 4) + 2 ^ 31 * (w / 2 ^ 31)
sum_32 w lt = omega arith

-- ---- watchdogs

pub shifted : (m api : ℕ) → m ≤ 7 → api ≤ 10000 → api * 2 ^ (m + 2) % 2 ^ 64 ≡ 4 * 2 ^ m * api
shifted zero api le few = omega arith
shifted (suc zero) api le few = omega arith
shifted (suc (suc zero)) api le few = omega arith
shifted (suc (suc (suc zero))) api le few = omega arith
shifted (suc (suc (suc (suc zero)))) api le few = omega arith
shifted (suc (suc (suc (suc (suc zero))))) api le few = omega arith
shifted (suc (suc (suc (suc (suc (suc zero)))))) api le few = omega arith
shifted (suc (suc (suc (suc (suc (suc (suc zero))))))) api le few = omega arith
shifted (suc (suc (suc (suc (suc (suc (suc (suc m)))))))) api le few = absurd (omega arith)
