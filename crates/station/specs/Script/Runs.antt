-- How far the lines of a script were taken, and the next one that is taken.
use Rattle.std.specs.Prelude.{ℕ, ◌+◌, ◌-◌, ◌^◌, ◌<◌, ◌≤◌, ◌≡◌, ◌≢◌, ◌==◌, ◌&&◌, ◌||◌, min, nat_lt, nat_le, if◌then◌else◌, Bool, List, [], ◌∷◌, option_and_then, Option, Some, None}
use Rattle.station.specs.declared.script.lines.DueTime.{DueTime}
use Rattle.station.specs.declared.script.lines.ScriptLine.{ScriptLine}
use Rattle.station.specs.declared.script.run.DueLine.{DueLine}
use Rattle.station.specs.declared.script.run.ScriptRun.{ScriptRun}
use Rattle.station.specs.Script.Due.{last_time, next_due}

-- a line was not taken at this time, with all before it
abbrev pub is_left : ScriptRun → DueLine → Bool
is_left run due = nat_lt run.ms due.ms || ((due.ms == run.ms) && nat_le run.line due.line)

abbrev pub left_at : ScriptRun → ℕ → ℕ → Option DueLine
left_at run number ms = if is_left run (record { ms = ms; line = number }) then Some (record { ms = ms; line = number }) else None

-- the last time up to now at which a line is due, if it was not taken then
abbrev pub open_time : ScriptRun → ℕ → ℕ → DueTime → Option DueLine
open_time run now number due = option_and_then (left_at run number) (last_time now due)

-- the earlier one of two lines, and the first one if both are due at one time
abbrev pub sooner_line : DueLine → DueLine → DueLine
sooner_line one other = if nat_lt other.ms one.ms then other else one

abbrev pub sooner : Option DueLine → Option DueLine → Option DueLine
sooner (Some one) (Some other) = Some (sooner_line one other)
sooner (Some one) None = Some one
sooner None other = other

-- the next of these lines that is due up to now; the first of them has this number
abbrev pub first_from : ScriptRun → ℕ → ℕ → List ScriptLine → Option DueLine
first_from run now number [] = None
first_from run now number (line ∷ lines) = sooner (open_time run now number line.due) (first_from run now (number + 1) lines)

-- the line that is taken
abbrev pub taken : ScriptRun → ℕ → List ScriptLine → Option DueLine
taken run now script = first_from run now 0 script

-- a line was taken
abbrev pub after : ScriptRun → Option DueLine → ScriptRun
after run None = run
after run (Some due) = record run { ms = due.ms; line = due.line + 1 }

abbrev pub time_to : (now most : ℕ) → Option ℕ → ℕ
time_to now most None = most
time_to now most (Some ms) = min most (ms - now)

abbrev pub wait_for : (now most : ℕ) → Option DueLine → Option ℕ → ℕ
wait_for now most (Some due) next = 0
wait_for now most None next = time_to now most next

-- the wait until a line can be taken, of at most so many milliseconds
abbrev pub wait_of : ScriptRun → (now most : ℕ) → List ScriptLine → ℕ
wait_of run now most script = wait_for now most (taken run now script) (next_due now script)

-- While a run waits so long nothing can be taken. A wait that is shorter than the longest ends when a line can be taken.
abbrev pub IsExactWait : ScriptRun → (now most : ℕ) → List ScriptLine → ℕ → Type 0
IsExactWait run now most script wait =
    (wait ≤ most)
    × (((time : ℕ) → now ≤ time → time < now + wait → time < 2 ^ 64 → taken run time script ≡ None)
    × (wait < most → taken run (now + wait) script ≢ None))

-- Each wait is exact, unless the clock went back behind the line that was taken last.
abbrev pub WaitsAreExact : Type 0
WaitsAreExact = (run : ScriptRun) (now most : ℕ) (script : List ScriptLine) → run.ms ≤ now → IsExactWait run now most script (wait_of run now most script)
