-- What a script says of its lines, whose numbers begin with 1.
use Rattle.std.specs.Prelude.{ℕ, ◌+◌, ◌-◌, ◌^◌, min, nat_lt, if◌then◌else◌, List, [], ◌++◌, codes, decimal}
use Rattle.cip_tables.specs.declared.table.DeviceTable.{DeviceTable}
use Rattle.script_checks.specs.declared.condition.Condition.{Condition}
use Rattle.script_checks.specs.Texts.{condition_text, seen_text}
use Rattle.station.specs.declared.script.lines.ScriptAct.{ScriptAct}
use Rattle.station.specs.declared.script.lines.ScriptAct.TheVariants as act

abbrev pub number_text : (line : ℕ) → List ℕ
number_text line = decimal (min (line + 1) (2 ^ 64 - 1))

-- a line was met, after so many milliseconds
abbrev pub met_text : (line : ℕ) → Condition → (after : ℕ) → List ℕ
met_text line condition after = codes "met " ++ (number_text line ++ (codes " " ++ (condition_text condition ++ (codes " after " ++ decimal after))))

-- within how many milliseconds a condition is expected; nothing, if at once
abbrev pub within_text : ℕ → List ℕ
within_text within = if nat_lt 0 within then codes " within " ++ decimal within else []

-- why an expectation failed: what was expected, and what the device has in its place
abbrev pub unmet_text : DeviceTable → (within : ℕ) → Condition → List ℕ
unmet_text table within condition = condition_text condition ++ (within_text within ++ (codes ", but " ++ seen_text table condition))

-- a line failed
abbrev pub failed_text : (line : ℕ) → (why : List ℕ) → List ℕ
failed_text line why = codes "failed " ++ (number_text line ++ (codes " " ++ why))

-- the script passed with a line
abbrev pub passed_text : (line : ℕ) → List ℕ
passed_text line = codes "passed " ++ number_text line

-- the same, as it is read
abbrev pub front_text : ℕ → List ℕ
front_text within = if nat_lt 0 within then codes "within " ++ (decimal within ++ codes " ") else []

abbrev pub expected_text : (within : ℕ) → Condition → List ℕ
expected_text within condition = codes "expect " ++ (front_text within ++ condition_text condition)

abbrev pub act_text : ScriptAct → List ℕ
act_text (act.Do step) = codes "call"
act_text (act.Expect within condition) = expected_text within condition
act_text (act.Fail text) = codes "fail " ++ text
act_text act.Pass = codes "pass"

-- a line that judges, behind its number
unfoldable pub line_text : (line : ℕ) → ScriptAct → List ℕ
line_text line said = number_text line ++ (codes ": " ++ act_text said)
