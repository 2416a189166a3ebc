-- What came of a script: its suite of a report, and lines for people.
use Rattle.std.specs.Prelude.{ℕ, zero, suc, ◌==◌, if◌then◌else◌, Bool, List, [], ◌++◌, codes, decimal, length, slice_get, Option, Some, None}
use Rattle.script_checks.specs.declared.reports.ReportCounts.{ReportCounts}
use Rattle.script_checks.specs.declared.verdicts.LineVerdict.{LineVerdict}
use Rattle.script_checks.specs.Reports.{case_text, counted, suite_head}
use Rattle.script_checks.specs.Verdicts.{is_bad, line_verdict}
use Rattle.station.specs.declared.script.checks.LineCheck.{LineCheck}
use Rattle.station.specs.declared.script.lines.ScriptLine.{ScriptLine}
use Rattle.station.specs.Script.Checks.{Checks, course_of, goal_of}
use Rattle.station.specs.Script.Texts.{line_text}

-- what came of a line, if it judges
abbrev pub verdict_of : (decided : Bool) → ScriptLine → LineCheck → Option LineVerdict
verdict_of decided said check = line_verdict (goal_of said.act) (course_of check) decided

abbrev pub verdict_in : (decided : Bool) → Option ScriptLine → Option LineCheck → Option LineVerdict
verdict_in decided (Some said) (Some check) = verdict_of decided said check
verdict_in decided (Some said) None = None
verdict_in decided None check = None

abbrev pub verdict_at : List ScriptLine → Checks → (line : ℕ) → Option LineVerdict
verdict_at script checks line = verdict_in checks.decided (slice_get script line) (slice_get checks.lines line)

abbrev pub counted_with : Option LineVerdict → ReportCounts → ReportCounts
counted_with (Some verdict) counts = counted verdict counts
counted_with None counts = counts

-- how many of the first lines judge, and what came of them
abbrev pub counts_to : List ScriptLine → Checks → (lines : ℕ) → ReportCounts
counts_to script checks zero = record { cases = 0; failures = 0; skipped = 0 }
counts_to script checks (suc line) = counted_with (verdict_at script checks line) (counts_to script checks line)

-- how many lines judge, and what came of them
abbrev pub counts_of : List ScriptLine → Checks → ReportCounts
counts_of script checks = counts_to script checks (length script)

-- why a line has not passed
abbrev pub message_in : Option (List ℕ) → List ℕ
message_in (Some why) = why
message_in None = codes "was not reached"

abbrev pub message_of : LineCheck → List ℕ
message_of check = message_in check.failure

-- THE SUITE

abbrev pub case_with : (suite : List ℕ) → (line : ℕ) → ScriptLine → LineCheck → Option LineVerdict → List ℕ
case_with suite line said check (Some verdict) = case_text suite (line_text line said.act) check.longest_ms verdict (message_of check)
case_with suite line said check None = []

-- the case of a line, if it judges
abbrev pub case_of : (suite : List ℕ) → (decided : Bool) → (line : ℕ) → ScriptLine → LineCheck → List ℕ
case_of suite decided line said check = case_with suite line said check (verdict_of decided said check)

abbrev pub case_in : (suite : List ℕ) → (decided : Bool) → (line : ℕ) → Option ScriptLine → Option LineCheck → List ℕ
case_in suite decided line (Some said) (Some check) = case_of suite decided line said check
case_in suite decided line (Some said) None = []
case_in suite decided line None check = []

abbrev pub case_at : (suite : List ℕ) → List ScriptLine → Checks → (line : ℕ) → List ℕ
case_at suite script checks line = case_in suite checks.decided line (slice_get script line) (slice_get checks.lines line)

-- the cases of the first lines
abbrev pub cases_to : (suite : List ℕ) → List ScriptLine → Checks → (lines : ℕ) → List ℕ
cases_to suite script checks zero = []
cases_to suite script checks (suc line) = cases_to suite script checks line ++ case_at suite script checks line

-- a case for each line that judges
abbrev pub suite_text : (suite : List ℕ) → List ScriptLine → Checks → List ℕ
suite_text suite script checks = suite_head suite (counts_of script checks) ++ (cases_to suite script checks (length script) ++ codes "  </testsuite>\n")

-- LINES FOR PEOPLE

-- a text between two others
unfoldable pub between : (before text behind : List ℕ) → List ℕ
between before text behind = before ++ (text ++ behind)

abbrev pub bad_line : (name : List ℕ) → (line : ℕ) → ScriptLine → LineCheck → List ℕ
bad_line name line said check = between (codes "eip_station: ") name (codes ": script line ") ++ (line_text line said.act ++ between (codes ": ") (message_of check) (codes "\n"))

abbrev pub bad_with : (name : List ℕ) → (line : ℕ) → ScriptLine → LineCheck → Option LineVerdict → List ℕ
bad_with name line said check (Some verdict) = if is_bad verdict then bad_line name line said check else []
bad_with name line said check None = []

-- the line of words about a line, if the script has not passed with it
abbrev pub bad_of : (name : List ℕ) → (decided : Bool) → (line : ℕ) → ScriptLine → LineCheck → List ℕ
bad_of name decided line said check = bad_with name line said check (verdict_of decided said check)

abbrev pub bad_in : (name : List ℕ) → (decided : Bool) → (line : ℕ) → Option ScriptLine → Option LineCheck → List ℕ
bad_in name decided line (Some said) (Some check) = bad_of name decided line said check
bad_in name decided line (Some said) None = []
bad_in name decided line None check = []

abbrev pub bad_at : (name : List ℕ) → List ScriptLine → Checks → (line : ℕ) → List ℕ
bad_at name script checks line = bad_in name checks.decided line (slice_get script line) (slice_get checks.lines line)

-- those of the first lines
abbrev pub bad_to : (name : List ℕ) → List ScriptLine → Checks → (lines : ℕ) → List ℕ
bad_to name script checks zero = []
bad_to name script checks (suc line) = bad_to name script checks line ++ bad_at name script checks line

-- a line of words for each line of a script with which it has not passed
abbrev pub bad_lines : (name : List ℕ) → List ScriptLine → Checks → List ℕ
bad_lines name script checks = bad_to name script checks (length script)

abbrev pub said_of : (failures : ℕ) → List ℕ
said_of failures = if failures == 0 then codes "has passed" else codes "has not passed"

unfoldable pub counted_text : (name said : List ℕ) → ReportCounts → List ℕ
counted_text name said counts =
    codes "eip_station: " ++ (name ++ (codes ": its script " ++ (said ++ (codes ": " ++ (decimal counts.cases ++ (codes " lines judge, " ++ (decimal counts.failures ++ (codes " failed, " ++ (decimal counts.skipped ++ codes " skipped\n")))))))))

-- how many lines have passed; nothing, if none judges
abbrev pub summary_text : (name : List ℕ) → ReportCounts → List ℕ
summary_text name counts = if counts.cases == 0 then [] else counted_text name (said_of counts.failures) counts
