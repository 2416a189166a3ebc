-- What the lines of a script wait for, how they went, and what a look at the device decides.
use Rattle.std.specs.Prelude.{ℕ, zero, suc, ◌+◌, ◌-◌, ◌^◌, min, max, length, map, slice_get, slice_set, is_some, if◌then◌else◌, Bool, false, List, [], ◌∷◌, Option, Some, None}
use Rattle.cip_tables.specs.declared.table.DeviceTable.{DeviceTable}
use Rattle.script_checks.specs.declared.condition.Condition.{Condition}
use Rattle.script_checks.specs.declared.judging.ExpectationState.{ExpectationState}
use Rattle.script_checks.specs.declared.judging.ExpectationState.TheVariants.{Waiting, Met, Failed}
use Rattle.script_checks.specs.declared.verdicts.Goal.{Goal}
use Rattle.script_checks.specs.declared.verdicts.Goal.TheVariants as goal
use Rattle.script_checks.specs.declared.verdicts.LineCourse.{LineCourse}
use Rattle.script_checks.specs.Holding.{holds}
use Rattle.script_checks.specs.Judging.{judgement}
use Rattle.station.specs.declared.script.checks.Decision.{Decision}
use Rattle.station.specs.declared.script.checks.Decision.TheVariants.{Stays, Fires, Meets, Fails}
use Rattle.station.specs.declared.script.checks.DecidedLine.{DecidedLine}
use Rattle.station.specs.declared.script.checks.LineCheck.{LineCheck}
use Rattle.station.specs.declared.script.checks.LineWait.{LineWait}
use Rattle.station.specs.declared.script.checks.LineWait.TheVariants as wait
use Rattle.station.specs.declared.script.lines.ScriptAct.{ScriptAct}
use Rattle.station.specs.declared.script.lines.ScriptAct.TheVariants as act
use Rattle.station.specs.declared.script.lines.ScriptLine.{ScriptLine}
use Rattle.station.specs.Script.Due.{earlier}

-- what a line is for
abbrev pub goal_of : ScriptAct → Goal
goal_of (act.Do step) = goal.Call
goal_of (act.Expect within condition) = goal.Expect
goal_of (act.Fail text) = goal.Fail
goal_of act.Pass = goal.Pass

-- THE LINES SO FAR

-- how the lines went, in their order, and whether one of them decided the script
pub record Checks : Type 0 where
  pub lines : List LineCheck
  pub decided : Bool

-- a line that was never due
abbrev pub no_check : LineCheck
no_check = record { wait = wait.Nothing; met = 0; longest_ms = 0; failure = None }

abbrev pub fresh_checks : List ScriptLine → Checks
fresh_checks script = record { lines = map (λ line. no_check) script; decided = false }

abbrev pub course_of : LineCheck → LineCourse
course_of check = record { met = check.met; failed = is_some check.failure }

-- a line waits for something else
abbrev pub line_waits : LineWait → LineCheck → LineCheck
line_waits waited check = record check { wait = waited }

-- a line was met, or taken, after so many milliseconds
abbrev pub line_met : (after : ℕ) → LineCheck → LineCheck
line_met after check = record { wait = wait.Nothing; met = min (check.met + 1) (2 ^ 32 - 1); longest_ms = max check.longest_ms after; failure = check.failure }

abbrev pub first_why : Option (List ℕ) → List ℕ → Option (List ℕ)
first_why (Some earlier) why = Some earlier
first_why None why = Some why

-- a line failed: its first reason is kept
abbrev pub line_failed : (why : List ℕ) → LineCheck → LineCheck
line_failed why check = record check { wait = wait.Nothing; failure = first_why check.failure why }

abbrev pub changed_at : List LineCheck → ℕ → (LineCheck → LineCheck) → Option LineCheck → List LineCheck
changed_at lines line change (Some check) = slice_set lines line (change check)
changed_at lines line change None = lines

-- the line of this number is changed
abbrev pub with_line : ℕ → (LineCheck → LineCheck) → Checks → Checks
with_line line change checks = record checks { lines = changed_at checks.lines line change (slice_get checks.lines line) }

abbrev pub wait_in : Option LineCheck → LineWait
wait_in (Some check) = check.wait
wait_in None = wait.Nothing

abbrev pub wait_at : Checks → ℕ → LineWait
wait_at checks line = wait_in (slice_get checks.lines line)

-- WHAT A LOOK DECIDES

-- the condition that a line expects
abbrev pub expects : ScriptAct → Option Condition
expects (act.Expect within condition) = Some condition
expects other = None

abbrev pub holds_if : DeviceTable → Option Condition → Bool
holds_if table (Some condition) = holds table condition
holds_if table None = false

abbrev pub decided_so : ExpectationState → Decision
decided_so Waiting = Stays
decided_so Met = Meets
decided_so Failed = Fails

-- what is decided about a line that waits for this
abbrev pub line_decision : DeviceTable → (now : ℕ) → ScriptLine → LineWait → Decision
line_decision table now line wait.Nothing = Stays
line_decision table now line wait.When = if holds_if table line.guard then Fires else Stays
line_decision table now line (wait.Expected since until) = decided_so (judgement (holds_if table (expects line.act)) now until)

abbrev pub decided_of : (number : ℕ) → Decision → Option DecidedLine
decided_of number Stays = None
decided_of number other = Some (record { line = number; decision = other })

abbrev pub decided_in : DeviceTable → (now number : ℕ) → Option ScriptLine → Option LineCheck → Option DecidedLine
decided_in table now number (Some line) (Some check) = decided_of number (line_decision table now line check.wait)
decided_in table now number (Some line) None = None
decided_in table now number None check = None

-- what is decided about the line of this number
abbrev pub decided_at : DeviceTable → (now : ℕ) → List ScriptLine → List LineCheck → (number : ℕ) → Option DecidedLine
decided_at table now script checks number = decided_in table now number (slice_get script number) (slice_get checks number)

abbrev pub earlier_or : Option DecidedLine → Option DecidedLine → Option DecidedLine
earlier_or (Some earlier) later = Some earlier
earlier_or None later = later

-- the first of so many lines about which something is decided
abbrev pub first_to : DeviceTable → (now : ℕ) → List ScriptLine → List LineCheck → (lines : ℕ) → Option DecidedLine
first_to table now script checks zero = None
first_to table now script checks (suc line) = earlier_or (first_to table now script checks line) (decided_at table now script checks line)

-- of a script that is decided, nothing is
abbrev pub first_decided : DeviceTable → (now : ℕ) → List ScriptLine → Checks → Option DecidedLine
first_decided table now script checks = if checks.decided then None else first_to table now script checks.lines (length script)

-- WHEN A LINE CAN FAIL

abbrev pub expiry_of : LineWait → Option ℕ
expiry_of (wait.Expected since until) = Some (min (until + 1) (2 ^ 64 - 1))
expiry_of other = None

abbrev pub first_expiry_in : List LineCheck → Option ℕ
first_expiry_in [] = None
first_expiry_in (check ∷ checks) = earlier (expiry_of check.wait) (first_expiry_in checks)

-- the first moment at which a line can fail that waits
abbrev pub first_expiry : Checks → Option ℕ
first_expiry checks = if checks.decided then None else first_expiry_in checks.lines
