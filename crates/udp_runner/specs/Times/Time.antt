-- The milliseconds that a device is given, by the nanoseconds that have passed and the milliseconds that it was given before.
--
-- What has arrived is given to a device whose clock is brought up to the millisecond that has begun; a time-out is judged at
-- the last one that has passed. So the time from a datagram to the time-out is never shorter than the time-out, and less than
-- a millisecond longer. The device's time never goes back: it is given nothing while it is ahead.
use Rattle.std.specs.Prelude.{ℕ, ◌+◌, ◌-◌, ◌*◌, ◌/◌, ◌%◌, ◌^◌, min, nat_eq, nat_lt, if◌then◌else◌, Option, Some, None}
use Rattle.std.specs.Time.{instant_nanos}
use Rattle.std.specs.declared.time.Instant.{Instant}

-- the nanoseconds from the last reading to this one: none at the first reading, and none if the clock went back
abbrev pub passed_ns : Option Instant → Instant → ℕ
passed_ns None now = 0
passed_ns (Some last) now = instant_nanos now - instant_nanos last

-- the nanoseconds that have passed after so many more, within 64 bits
abbrev pub owed_after : ℕ → ℕ → ℕ
owed_after owed passed = min (owed + passed) (2 ^ 64 - 1)

-- the milliseconds up to the one that has begun
abbrev pub whole_begun : ℕ → ℕ
whole_begun passed = if nat_eq (passed % 1000000) 0 then passed / 1000000 else passed / 1000000 + 1

-- before a time-out is judged: the whole milliseconds that have passed, at most those of the longest tick
abbrev pub passed_ms : ℕ → ℕ → ℕ
passed_ms passed given = min (passed / 1000000 - given) 60000

-- before what has arrived is given: those up to the one that has begun
abbrev pub begun_ms : ℕ → ℕ → ℕ
begun_ms passed given = min (whole_begun passed - given) 60000

-- How long a caller waits for so many milliseconds, if so many nanoseconds passed since the last reading: not at all while a
-- whole one is owed; else for what is missing.
abbrev pub wait_ns : ℕ → ℕ → ℕ → ℕ → ℕ
wait_ns passed given later ms =
    if nat_lt given (passed / 1000000) then 0 else min (given + ms) (2 ^ 64 - 1) * 1000000 - passed - later
