-- The highest bit of a byte.
use Rattle.std.proofs.Common.{◌≡◌, ℕ, zero, suc, ◌+◌, ◌*◌, ◌/◌, ◌%◌, ◌<◌, bit_or, refl, ap, ◌∙◌, arith}
use Rattle.std.proofs.lemmas.Nat.{or_block}
use Rattle.std.specs.Int.Bits.{or_zero_r}

or_one : (bit : ℕ) → bit < 2 → bit_or bit 1 ≡ 1
or_one zero lt = refl
or_one (suc zero) lt = refl
or_one (suc (suc n)) lt = absurd (omega arith)

-- setting the highest bit of a byte keeps the others
pub service_bit : (byte : ℕ) → byte < 256 → bit_or byte 128 ≡ 128 + byte % 128
service_bit byte lt =
    let parts : byte ≡ byte / 128 * 128 + byte % 128 = omega arith in
    let cut = or_block 7 (byte / 128) 1 (byte % 128) 0 (omega arith) (omega arith) in
    let high = or_one (byte / 128) (omega arith) in
    let low = or_zero_r (byte % 128) in
    ap (λ (n : ℕ). bit_or n 128) parts ∙ cut ∙ rw (high, low) (omega arith)
