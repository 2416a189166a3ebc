-- When a station reads what its host has counted. Times are in milliseconds, by the clock of its device.
use Rattle.std.specs.Prelude.{ℕ, ◌-◌, nat_le, Bool, true, Option, Some, None}

-- the first request that reads it has the files read, and each one that comes a second or more behind the last reading
abbrev pub are_read : (read : Option ℕ) → (now : ℕ) → Bool
are_read None now = true
are_read (Some read) now = nat_le 1000 (now - read)
