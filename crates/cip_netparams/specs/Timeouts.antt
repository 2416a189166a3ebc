-- The time-outs of connections are bounded.
use Rattle.std.proofs.Common.{◌≤◌, ℕ, ◌*◌, ◌^◌, lit<, le_trans}
use Rattle.std.proofs.Math.Nat.{pow-le-pow_right, mul-le-mul_left, mul-le-mul_right}
use Rattle.cip_netparams.specs.Rate.{timeout}

-- the longest time-out, in milliseconds: the largest multiplier, and the longest packet interval
pub timeout_fits : (multiplier api : ℕ) → multiplier ≤ 7 → api ≤ 10000 → timeout multiplier api ≤ 5120000
timeout_fits multiplier api few short =
    let power : 2 ^ multiplier ≤ 2 ^ 7 = pow-le-pow_right (lit< tt) few in
    le_trans (mul-le-mul_right api (mul-le-mul_left 4 power)) (mul-le-mul_left (4 * 2 ^ 7) short)
