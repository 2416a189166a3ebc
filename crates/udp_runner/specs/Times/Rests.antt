-- When a loop that never waits rests. A system that schedules a thread by priority alone stops it once it has used 950 ms of a
-- second, for the rest of that second; so a loop rests for 0.25 ms once it was busy for 2 ms.
use Rattle.std.specs.Prelude.{ℕ, ◌+◌, ◌-◌, ◌^◌, min, nat_lt, if◌then◌else◌}
use Rattle.udp_runner.specs.declared.times.rests.BusyTime.{BusyTime}

-- how long the loop has to rest at this time
abbrev pub rest_ns : BusyTime → ℕ → ℕ
rest_ns busy now = if nat_lt (now - busy.since_ns) 2000000 then 0 else 250000 - busy.rested_ns

-- the loop has waited for so long altogether: once that is a rest, it is busy from then on
abbrev pub rested_for : BusyTime → ℕ → ℕ → BusyTime
rested_for busy to rested =
    if nat_lt rested 250000 then record busy { rested_ns = rested } else record { since_ns = to; rested_ns = 0 }

-- after a wait from one time to the other: one of less than 20 us is no rest
abbrev pub after_wait : BusyTime → ℕ → ℕ → BusyTime
after_wait busy from to =
    if nat_lt (to - from) 20000 then busy else rested_for busy to (min (busy.rested_ns + (to - from)) (2 ^ 64 - 1))
