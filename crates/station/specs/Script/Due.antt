-- When a line of a script is due, in milliseconds since the plant began.
use Rattle.std.specs.Prelude.{ℕ, ◌+◌, ◌-◌, ◌^◌, ◌<◌, ◌≤◌, ◌≡◌, ◌==◌, ◌%◌, ◌&&◌, ◌||◌, min, nat_lt, nat_le, if◌then◌else◌, Bool, true, false, List, [], ◌∷◌, Option, Some, None}
use Rattle.station.specs.declared.script.lines.DueTime.{DueTime}
use Rattle.station.specs.declared.script.lines.DueTime.TheVariants.{At, Every}
use Rattle.station.specs.declared.script.lines.ScriptLine.{ScriptLine}

-- whether a line is due at a time: once, or at each multiple above 0
abbrev pub is_due : DueTime → ℕ → Bool
is_due (At ms) time = time == ms
is_due (Every ms) time = nat_lt 0 ms && (nat_lt 0 time && (time % ms == 0))

-- THE LAST TIME UP TO NOW

abbrev pub time_until : (now ms : ℕ) → Option ℕ
time_until now ms = if nat_le ms now then Some ms else None

abbrev pub last_round : (now ms : ℕ) → Option ℕ
last_round now ms = if (ms == 0) || nat_lt now ms then None else Some (now - now % ms)

abbrev pub last_time : ℕ → DueTime → Option ℕ
last_time now (At ms) = time_until now ms
last_time now (Every ms) = last_round now ms

-- the last time up to now at which a line is due, as it is meant
abbrev pub IsLast : ℕ → DueTime → Option ℕ → Type 0
IsLast now due (Some time) = (time ≤ now) × ((is_due due time ≡ true) × ((later : ℕ) → time < later → later ≤ now → is_due due later ≡ false))
IsLast now due None = (time : ℕ) → time ≤ now → is_due due time ≡ false

-- THE NEXT TIME BEHIND NOW

abbrev pub time_behind : (now ms : ℕ) → Option ℕ
time_behind now ms = if nat_lt now ms then Some ms else None

abbrev pub round_within : ℕ → Option ℕ
round_within time = if nat_lt time (2 ^ 64) then Some time else None

abbrev pub next_round : (now ms : ℕ) → Option ℕ
next_round now ms = if ms == 0 then None else round_within (now + (ms - now % ms))

abbrev pub next_time : ℕ → DueTime → Option ℕ
next_time now (At ms) = time_behind now ms
next_time now (Every ms) = next_round now ms

-- the first time behind now at which a line is due, as it is meant
abbrev pub IsNext : ℕ → DueTime → Option ℕ → Type 0
IsNext now due (Some time) = (now < time) × ((is_due due time ≡ true) × ((sooner : ℕ) → now < sooner → sooner < time → is_due due sooner ≡ false))
IsNext now due None = (time : ℕ) → now < time → time < 2 ^ 64 → is_due due time ≡ false

-- the earlier one of two times
abbrev pub earlier : Option ℕ → Option ℕ → Option ℕ
earlier (Some one) (Some other) = Some (min one other)
earlier (Some one) None = Some one
earlier None other = other

-- the first time behind now at which one of these lines is due
abbrev pub next_due : ℕ → List ScriptLine → Option ℕ
next_due now [] = None
next_due now (line ∷ lines) = earlier (next_time now line.due) (next_due now lines)
