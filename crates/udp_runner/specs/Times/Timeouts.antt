-- For how long no connection of a packet interval times out (Volume 1, chapter 3, connection timeout multiplier, inactivity
-- watchdog): its time-out is 4 packet intervals, or twice as many, and so on up to 512, and the first one is at least 10 s.
use Rattle.std.specs.Prelude.{ℕ, ◌*◌, ◌-◌, min, max, nat_lt, Bool, if◌then◌else◌}

-- the time-out by a multiplier
abbrev pub timeout_ms : ℕ → Bool → ℕ → ℕ
timeout_ms api first multiplier = if first then max (multiplier * api) 10000 else multiplier * api

-- the milliseconds that pass before this time-out, if it is to come, or fewer
abbrev pub nearer : ℕ → ℕ → ℕ → ℕ
nearer ms age timeout = if nat_lt age timeout then min ms (timeout - age - 1) else ms

-- before the nearest one of a connection whose newest datagram, or else whose opening, is so old: at most a longest tick
abbrev pub before_timeout : ℕ → ℕ → Bool → ℕ
before_timeout api age first =
    nearer (nearer (nearer (nearer (nearer (nearer (nearer (nearer 60000
    age (timeout_ms api first 4)) age (timeout_ms api first 8)) age (timeout_ms api first 16)) age (timeout_ms api first 32))
    age (timeout_ms api first 64)) age (timeout_ms api first 128)) age (timeout_ms api first 256)) age (timeout_ms api first 512)
