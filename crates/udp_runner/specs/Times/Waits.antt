-- How long a station's port waits. Times are in nanoseconds where nothing else is said.
use Rattle.std.specs.Prelude.{ℕ, ◌-◌, ◌/◌, ◌^◌, min}

-- the whole milliseconds of so many nanoseconds, within 64 bits
abbrev pub whole_ms : ℕ → ℕ
whole_ms ns = min (ns / 1000000) (2 ^ 64 - 1)
