-- When an alarm rings. Times are in nanoseconds behind the alarm's origin; an alarm at 0 is not set.
use Rattle.std.specs.Prelude.{ℕ, ◌-◌, ◌^◌, ◌&&◌, not, min, nat_eq, nat_lt, nat_le, Bool, if◌then◌else◌, Option, Some, None}
use Rattle.std.specs.Time.{instant_nanos}
use Rattle.std.specs.declared.time.Instant.{Instant}
use Rattle.station_port.specs.declared.alarm.times.AlarmStep.{AlarmStep}
use Rattle.station_port.specs.declared.alarm.times.AlarmStep.TheVariants as step

-- the thread of an alarm rests while none is set, sleeps until it is due, and then rings
abbrev pub alarm_step : ℕ → ℕ → AlarmStep
alarm_step due now = if nat_eq due 0 then step.Rest else (if nat_lt now due then step.Sleep (due - now) else step.Ring)

-- an alarm may ring so long behind the end of a wait
abbrev pub most_late : ℕ
most_late = 20000

-- an alarm still rings within a wait from now to its end, or as little behind the end as it may
abbrev pub rings_in_time : ℕ → ℕ → ℕ → Bool
rings_in_time due now end = nat_lt now due && nat_le (due - most_late) end

-- it is set to the end of a wait that has not ended, unless it rings in time for it
abbrev pub sets_anew : ℕ → ℕ → ℕ → Bool
sets_anew due now end = nat_lt now end && not (rings_in_time due now end)

-- the time from the origin to a moment, within 64 bits
abbrev pub ns_behind : Option Instant → Instant → ℕ
ns_behind None moment = 0
ns_behind (Some origin) moment = min (instant_nanos moment - instant_nanos origin) (2 ^ 64 - 1)
