-- When a station ends, and how long its turns wait.
use Rattle.std.specs.Prelude.{ℕ, ◌-◌, min, nat_le, Bool, true, false, Option, Some, None}

-- whether the time of a station is over
abbrev pub is_over : ℕ → Option ℕ → Bool
is_over now None = false
is_over now (Some end) = nat_le end now

-- the milliseconds that a turn waits at most: 1,000, and no longer than to the end
abbrev pub pause_ms : ℕ → Option ℕ → ℕ
pause_ms now None = 1000
pause_ms now (Some end) = min 1000 (end - now)

-- the milliseconds that a turn waits at most: while a line of state waits for room, 50
abbrev pub patience_ms : Bool → ℕ → ℕ
patience_ms true most = min 50 most
patience_ms false most = most
