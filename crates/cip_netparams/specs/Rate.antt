-- Packet intervals and watchdogs (Volume 1, chapter 3, requested and actual packet interval, connection
-- timeout multiplier).
use Rattle.std.specs.Prelude.{ℕ, ◌+◌, ◌*◌, ◌/◌, ◌≤◌, ◌^◌, Bool, ◌&&◌, nat_le}

-- microseconds that an originator may request
abbrev pub IsInterval : ℕ → Type 0
IsInterval rpi = (1 ≤ rpi) × (rpi ≤ 10000000)

-- whether an originator may request these microseconds
abbrev pub is_interval : ℕ → Bool
is_interval rpi = nat_le 1 rpi && nat_le rpi 10000000

-- milliseconds that are no shorter than the microseconds, and no longer than they must be
abbrev pub IsApi : ℕ → ℕ → Type 0
IsApi rpi api = (rpi ≤ 1000 * api) × ((n : ℕ) → rpi ≤ 1000 * n → api ≤ n)

-- microseconds in milliseconds, rounded up
abbrev pub interval_ms : ℕ → ℕ
interval_ms rpi = (rpi + 999) / 1000

-- the time-out of a consumer, in milliseconds
abbrev pub timeout : ℕ → ℕ → ℕ
timeout multiplier api = 4 * 2 ^ multiplier * api
