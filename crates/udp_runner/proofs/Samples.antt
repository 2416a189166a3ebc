-- Pauses and steps of a clock, time-outs and rests, by their numbers.
use Rattle.std.proofs.Common.{◌≡◌, true, false, refl}
use Rattle.udp_runner.specs.Times.Time.{begun_ms, owed_after, passed_ms, wait_ns}
use Rattle.udp_runner.specs.Times.Timeouts.{before_timeout}
use Rattle.udp_runner.specs.Times.Rests.{after_wait, rest_ns}

-- a pause of 70,000.4 ms: a tick of 60,000 ms, then one of 10,000 ms, and 0.4 ms stay owed
pause_first : passed_ms (owed_after 0 70000400000) 0 ≡ 60000
pause_first = refl

pause_second : passed_ms 70000400000 60000 ≡ 10000
pause_second = refl

pause_rest : passed_ms 70000400000 70000 ≡ 0
pause_rest = refl

-- 7.1 ms have passed, and the device was given 5: it is given 2 more before a time-out is judged, of 3 before a datagram
judged : passed_ms 7100000 5 ≡ 2
judged = refl

given : begun_ms 7100000 5 ≡ 3
given = refl

-- at a whole millisecond both are the same
judged_whole : passed_ms 7000000 5 ≡ 2
judged_whole = refl

given_whole : begun_ms 7000000 5 ≡ 2
given_whole = refl

-- a device that was given the millisecond that has begun is given nothing until it has passed
ahead : passed_ms 7900000 8 ≡ 0
ahead = refl

ahead_begun : begun_ms 7900000 8 ≡ 0
ahead_begun = refl

-- 0.4 ms are owed, and 0.1 ms passed since the last reading: 4.5 ms are left of 5 ms
waits : wait_ns 3400000 3 100000 5 ≡ 4500000
waits = refl

-- 0.9 ms are given ahead: 5.8 ms are left
waits_ahead : wait_ns 3100000 4 100000 5 ≡ 5800000
waits_ahead = refl

-- no wait while a millisecond is owed
owes : wait_ns 4000000 3 0 5 ≡ 0
owes = refl

-- 10 ms x 4 = 40 ms: after 30 ms no time-out comes for 9 ms, and after 39 ms not in this one; after 40 ms the next may come at 80
ten_ms : before_timeout 10 30 false ≡ 9
ten_ms = refl

at_once : before_timeout 10 39 false ≡ 0
at_once = refl

next_multiplier : before_timeout 10 40 false ≡ 39
next_multiplier = refl

-- the first one is at least 10 s, and comes no later than a longest tick is long
first : before_timeout 10 9000 true ≡ 999
first = refl

long_ago : before_timeout 10 5120 false ≡ 60000
long_ago = refl

-- busy for 1.9 ms, and for 2 ms; with 0.1 ms waited meanwhile
goes_on : rest_ns (record { since_ns = 1000000; rested_ns = 0 }) 2900000 ≡ 0
goes_on = refl

rests : rest_ns (record { since_ns = 1000000; rested_ns = 0 }) 3000000 ≡ 250000
rests = refl

rests_less : rest_ns (record { since_ns = 1000000; rested_ns = 100000 }) 3000000 ≡ 150000
rests_less = refl

-- a wait of 0.3 ms is a rest, one of 0.1 ms a part of it, one of 10 us none
rested : after_wait (record { since_ns = 0; rested_ns = 0 }) 500000 800000 ≡ record { since_ns = 800000; rested_ns = 0 }
rested = refl

in_part : after_wait (record { since_ns = 0; rested_ns = 50000 }) 500000 600000 ≡ record { since_ns = 0; rested_ns = 150000 }
in_part = refl

too_short : after_wait (record { since_ns = 0; rested_ns = 50000 }) 500000 510000 ≡ record { since_ns = 0; rested_ns = 50000 }
too_short = refl
