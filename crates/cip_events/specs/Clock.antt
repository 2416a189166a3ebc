-- The limits of time at a device.
use Rattle.std.specs.Prelude.{ℕ, ◌^◌}

-- the longest tick, and the end of the clock, in milliseconds
abbrev pub longest_tick : ℕ
longest_tick = 60000

abbrev pub clock_end : ℕ
clock_end = 2 ^ 48
