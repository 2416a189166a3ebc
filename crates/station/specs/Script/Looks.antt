-- The step that a script has for its device at a look, and what is left of the script: first what the look decides, then the line that
-- is due.
use Rattle.std.specs.Prelude.{ℕ, ◌+◌, ◌-◌, ◌^◌, ◌<◌, ◌≤◌, ◌≡◌, min, length, slice_get, if◌then◌else◌, true, List, Option, Some, None}
use Rattle.cip_tables.specs.declared.table.DeviceTable.{DeviceTable}
use Rattle.script_checks.specs.declared.condition.Condition.{Condition}
use Rattle.script_checks.specs.declared.judging.ExpectationState.{ExpectationState}
use Rattle.script_checks.specs.declared.judging.ExpectationState.TheVariants.{Met}
use Rattle.script_checks.specs.Holding.{holds}
use Rattle.script_checks.specs.Judging.{deadline, judgement}
use Rattle.station.specs.declared.script.checks.Decision.{Decision}
use Rattle.station.specs.declared.script.checks.Decision.TheVariants.{Fires, Meets}
use Rattle.station.specs.declared.script.checks.DecidedLine.{DecidedLine}
use Rattle.station.specs.declared.script.checks.LineCheck.{LineCheck}
use Rattle.station.specs.declared.script.checks.LineWait.{LineWait}
use Rattle.station.specs.declared.script.checks.LineWait.TheVariants as wait
use Rattle.station.specs.declared.script.lines.ScriptAct.{ScriptAct}
use Rattle.station.specs.declared.script.lines.ScriptAct.TheVariants as act
use Rattle.station.specs.declared.script.lines.ScriptLine.{ScriptLine}
use Rattle.station.specs.declared.script.run.DueLine.{DueLine}
use Rattle.station.specs.declared.script.state.ScriptState.{ScriptState}
use Rattle.station.specs.declared.step.StationStep.{StationStep}
use Rattle.station.specs.declared.step.StationStep.TheVariants as step
use Rattle.station.specs.Script.Checks.{first_decided, first_expiry, fresh_checks, line_failed, line_met, line_waits, wait_at, with_line}
use Rattle.station.specs.Script.Runs.{after, taken, wait_of}
use Rattle.station.specs.Script.Texts.{failed_text, met_text, passed_text, unmet_text}

-- a step, and what is left of the script
pub record Given : Type 0 where
  pub step : StationStep
  pub state : ScriptState

-- A function answered the step, and left this of the script.
abbrev pub Gave : Given → StationStep → ScriptState → Type 0
Gave given taken_step left = (taken_step ≡ given.step) × (left ≡ given.state)

-- It answered the step, if there is one.
abbrev pub GaveSome : Option Given → Option StationStep → ScriptState → ScriptState → Type 0
GaveSome None taken_step old new = (taken_step ≡ None) × (new ≡ old)
GaveSome (Some given) taken_step old new = (taken_step ≡ Some given.step) × (new ≡ given.state)

abbrev pub fresh_state : List ScriptLine → ScriptState
fresh_state script = record { run = record { ms = 0; line = 0 }; checks = fresh_checks script }

abbrev pub state_with : ScriptState → ℕ → (LineCheck → LineCheck) → ScriptState
state_with state line change = record state { checks = with_line line change state.checks }

abbrev pub decided_state : ScriptState → ScriptState
decided_state state = record state { checks = record state.checks { decided = true } }

-- nothing is done, but a turn is made that does not wait
abbrev pub nothing_given : ScriptState → Given
nothing_given state = record { step = step.Wait 0; state = state }

-- WHAT BECOMES OF A LINE

-- a line was met, so many milliseconds after it began to wait
abbrev pub met_line : ScriptState → (line after : ℕ) → Condition → Given
met_line state line after condition = record { step = step.Say (met_text line condition after); state = state_with state line (line_met after) }

-- a line failed, for this reason
abbrev pub failed_line : ScriptState → (line : ℕ) → (why : List ℕ) → Given
failed_line state line why = record { step = step.Say (failed_text line why); state = state_with state line (line_failed why) }

-- the script passed with a line
abbrev pub passed_line : ScriptState → (line : ℕ) → Given
passed_line state line = record { step = step.Say (passed_text line); state = state_with (decided_state state) line (line_met 0) }

-- a line begins to expect its condition: it is met at once, or waits
abbrev pub begun_so : ExpectationState → (now : ℕ) → ScriptState → (line within : ℕ) → Condition → Given
begun_so Met now state line within condition = met_line state line 0 condition
begun_so other now state line within condition = nothing_given (state_with state line (line_waits (wait.Expected now (deadline now within))))

abbrev pub expected_from : LineWait → DeviceTable → (now : ℕ) → ScriptState → (line within : ℕ) → Condition → Given
expected_from wait.Nothing table now state line within condition = begun_so (judgement (holds table condition) now (deadline now within)) now state line within condition
expected_from other table now state line within condition = nothing_given state

-- one that waits already waits on
abbrev pub expected : DeviceTable → (now : ℕ) → ScriptState → (line within : ℕ) → Condition → Given
expected table now state line within condition = expected_from (wait_at state.checks line) table now state line within condition

abbrev pub judging_line : DeviceTable → (now : ℕ) → ScriptState → (line : ℕ) → ScriptAct → Given
judging_line table now state line (act.Do done) = record { step = done; state = state }
judging_line table now state line (act.Expect within condition) = expected table now state line within condition
judging_line table now state line (act.Fail text) = failed_line (decided_state state) line text
judging_line table now state line act.Pass = passed_line state line

-- a line is taken: behind the decision of its script it judges nothing
abbrev pub begun_line : DeviceTable → (now : ℕ) → ScriptState → (line : ℕ) → ScriptAct → Given
begun_line table now state line (act.Do done) = record { step = done; state = state }
begun_line table now state line other = if state.checks.decided then nothing_given state else judging_line table now state line other

-- WHAT A LOOK DECIDES

abbrev pub waited_for : (now : ℕ) → LineWait → ℕ
waited_for now (wait.Expected since until) = now - since
waited_for now other = 0

-- what a line expects has come
abbrev pub come_line : (now : ℕ) → ScriptState → (line : ℕ) → ScriptAct → Given
come_line now state line (act.Expect within condition) = met_line state line (waited_for now (wait_at state.checks line)) condition
come_line now state line other = nothing_given (state_with state line (line_met (waited_for now (wait_at state.checks line))))

-- what it expects has not come in time
abbrev pub missed_line : DeviceTable → ScriptState → (line : ℕ) → ScriptAct → Given
missed_line table state line (act.Expect within condition) = failed_line state line (unmet_text table within condition)
missed_line table state line other = nothing_given state

abbrev pub concluded_so : Decision → DeviceTable → (now : ℕ) → ScriptState → (line : ℕ) → ScriptAct → Given
concluded_so Fires table now state line said = begun_line table now (state_with state line (line_waits wait.Nothing)) line said
concluded_so Meets table now state line said = come_line now state line said
concluded_so other table now state line said = missed_line table state line said

-- what is decided about a line
abbrev pub concluded : DeviceTable → (now : ℕ) → ScriptState → DecidedLine → ScriptAct → Given
concluded table now state decided said = concluded_so decided.decision table now state decided.line said

abbrev pub concluded_at : DeviceTable → (now : ℕ) → ScriptState → DecidedLine → Option ScriptLine → Option Given
concluded_at table now state decided (Some said) = Some (concluded table now state decided said.act)
concluded_at table now state decided None = None

abbrev pub decided_given : DeviceTable → (now : ℕ) → List ScriptLine → ScriptState → Option DecidedLine → Option Given
decided_given table now script state (Some decided) = concluded_at table now state decided (slice_get script decided.line)
decided_given table now script state None = None

-- the step of the first line about which a look decides something
abbrev pub decided_step : DeviceTable → (now : ℕ) → List ScriptLine → ScriptState → Option Given
decided_step table now script state = decided_given table now script state (first_decided table now script state.checks)

-- THE LINE THAT IS DUE

-- a line is due that waits for a condition: it waits from now on, unless it waits already
abbrev pub armed : ScriptState → (line : ℕ) → LineWait → ScriptState
armed state line wait.Nothing = state_with state line (line_waits wait.When)
armed state line other = state

abbrev pub due_so : DeviceTable → (now : ℕ) → ScriptState → (line : ℕ) → Option Condition → ScriptAct → Given
due_so table now state line (Some guard) said = nothing_given (armed state line (wait_at state.checks line))
due_so table now state line None said = begun_line table now state line said

abbrev pub due_at : DeviceTable → (now : ℕ) → ScriptState → (line : ℕ) → Option ScriptLine → Option Given
due_at table now state line (Some said) = Some (due_so table now state line said.guard said.act)
due_at table now state line None = None

abbrev pub run_behind : ScriptState → Option DueLine → ScriptState
run_behind state due = record state { run = after state.run due }

abbrev pub due_given : DeviceTable → (now : ℕ) → List ScriptLine → ScriptState → Option DueLine → Option Given
due_given table now script state (Some due) = due_at table now (run_behind state (Some due)) due.line (slice_get script due.line)
due_given table now script state None = None

-- the step of the line that is due
abbrev pub due_step : DeviceTable → (now : ℕ) → List ScriptLine → ScriptState → Option Given
due_step table now script state = due_given table now script state (taken state.run now script)

-- THE WAIT

abbrev pub least_wait : (now wait : ℕ) → Option ℕ → ℕ
least_wait now wait (Some end) = min wait (end - now)
least_wait now wait None = wait

-- the wait until a line is due, or until one can fail, of at most so many milliseconds
abbrev pub state_wait : ScriptState → (now most : ℕ) → List ScriptLine → ℕ
state_wait state now most script = least_wait now (wait_of state.run now most script) (first_expiry state.checks)

-- nothing is decided at a time about a device that stays as it is, and no line is due
abbrev pub NothingComes : DeviceTable → ScriptState → List ScriptLine → (time : ℕ) → Type 0
NothingComes table state script time = (first_decided table time script state.checks ≡ None) × (taken state.run time script ≡ None)

-- While a turn waits so long nothing comes. A wait that is shorter than the longest ends when something does.
abbrev pub IsExactLookWait : DeviceTable → ScriptState → (now most : ℕ) → List ScriptLine → (wait : ℕ) → Type 0
IsExactLookWait table state now most script wait =
    (wait ≤ most)
    × (((time : ℕ) → now ≤ time → time < now + wait → time < 2 ^ 64 → NothingComes table state script time)
    × (wait < most → now + wait < 2 ^ 64 - 1 → NothingComes table state script (now + wait) → ⊥))

-- Behind a look that decided nothing each wait is exact, unless the clock went back behind the line that was taken last.
abbrev pub LookWaitsAreExact : Type 0
LookWaitsAreExact = (table : DeviceTable) (state : ScriptState) (now most : ℕ) (script : List ScriptLine) →
    state.run.ms ≤ now → length state.checks.lines ≡ length script → first_decided table now script state.checks ≡ None →
    IsExactLookWait table state now most script (state_wait state now most script)
