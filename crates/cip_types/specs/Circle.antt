-- The order of sequence numbers of 32 bits, which wrap round (Volume 2, chapter 2, sequenced address item).
use Rattle.std.specs.Prelude.{ℕ, ◌+◌, ◌-◌, ◌%◌, ◌^◌, ◌≤◌, ◌&&◌, nat_le, Bool}

-- the distance from b up to a round the circle
abbrev pub distance : ℕ → ℕ → ℕ
distance a b = (a + 2 ^ 32 - b) % 2 ^ 32

-- a is ahead of b, by less than half of the circle
abbrev pub IsNewer : ℕ → ℕ → Type 0
IsNewer a b = (1 ≤ distance a b) × (distance a b ≤ 2 ^ 31 - 1)

-- the same as a test
abbrev pub is_newer : ℕ → ℕ → Bool
is_newer a b = nat_le 1 (distance a b) && nat_le (distance a b) (2 ^ 31 - 1)
