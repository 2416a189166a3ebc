-- What came of the lines of a script.
use Rattle.std.specs.Prelude.{ℕ, nat_lt, if◌then◌else◌, Bool, true, false, Option, Some, None}
use Rattle.script_checks.specs.declared.verdicts.Goal.{Goal}
use Rattle.script_checks.specs.declared.verdicts.Goal.TheVariants as goal
use Rattle.script_checks.specs.declared.verdicts.LineCourse.{LineCourse}
use Rattle.script_checks.specs.declared.verdicts.LineVerdict.{LineVerdict}
use Rattle.script_checks.specs.declared.verdicts.LineVerdict.TheVariants.{Passed, Failed, NotReached, Skipped}

-- a line that was met so often: a script that has ended without it has not passed, unless another line decided it
abbrev pub reached : (met : ℕ) → (decided : Bool) → LineVerdict
reached met decided = if nat_lt 0 met then Passed else (if decided then Skipped else NotReached)

abbrev pub fail_verdict : (failed : Bool) → LineVerdict
fail_verdict failed = if failed then Failed else Passed

-- what came of a line; nothing, of one that does not judge
abbrev pub line_verdict : Goal → LineCourse → (decided : Bool) → Option LineVerdict
line_verdict goal.Call course decided = None
line_verdict goal.Expect course decided = Some (if course.failed then Failed else reached course.met decided)
line_verdict goal.Fail course decided = Some (fail_verdict course.failed)
line_verdict goal.Pass course decided = Some (reached course.met decided)

-- the script has not passed with it
abbrev pub is_bad : LineVerdict → Bool
is_bad Passed = false
is_bad Failed = true
is_bad NotReached = true
is_bad Skipped = false
