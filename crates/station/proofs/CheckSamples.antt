-- What a look decides about the lines of a script, what is told of them, and what came of a script, worked by hand.
use Rattle.std.proofs.Common.{◌≡◌, List, [], ◌∷◌, true, false, Some, None, refl}
use Rattle.std.specs.Prelude.{codes}
use Rattle.std.specs.Fmt.{digits}
use Rattle.script_checks.specs.declared.condition.Condition.TheVariants as condition
use Rattle.script_checks.specs.declared.condition.OwnerState.TheVariants as owner
use Rattle.script_checks.specs.declared.judging.ExpectationState.TheVariants.{Waiting}
use Rattle.station.specs.declared.script.checks.Decision.TheVariants.{Stays}
use Rattle.station.specs.declared.script.checks.LineCheck.{LineCheck}
use Rattle.station.specs.declared.script.checks.LineWait.TheVariants as wait
use Rattle.station.specs.declared.script.lines.DueTime.TheVariants.{At}
use Rattle.station.specs.declared.script.lines.ScriptAct.TheVariants as act
use Rattle.station.specs.declared.script.lines.ScriptLine.{ScriptLine}
use Rattle.station.specs.declared.step.StationStep.TheVariants as step
use Rattle.station.specs.Script.Checks.{decided_so, first_expiry, fresh_checks, line_failed, line_met, no_check, with_line}
use Rattle.station.specs.Script.Looks.{begun_so, fresh_state, least_wait}
use Rattle.station.specs.Script.Report.{bad_lines, between, counted_text, counts_of, summary_text}
use Rattle.station.specs.Script.Texts.{failed_text, line_text, met_text, passed_text}

-- at 5000 expect within 320 owner 150 lost, and at 6000 pass
abbrev stop : ScriptLine
stop = record { due = At 5000; guard = None; act = act.Expect 320 (condition.Owner 150 owner.Lost) }

abbrev passing : ScriptLine
passing = record { due = At 6000; guard = None; act = act.Pass }

abbrev script : List ScriptLine
script = stop ∷ passing ∷ []

-- the first line waits since 5000 and up to 5320
abbrev waiting : LineCheck
waiting = record no_check { wait = wait.Expected 5000 5320 }

nothing_is_decided : decided_so Waiting ≡ Stays
nothing_is_decided = refl

-- at 5320 it can still be met, at 5321 it fails: a turn at 5300 waits no longer than 21 ms
its_end : first_expiry (record { lines = waiting ∷ no_check ∷ []; decided = false }) ≡ Some 5321
its_end = refl

its_wait : least_wait 5300 1000 (Some 5321) ≡ 21
its_wait = refl

-- a script that is decided waits for nothing
decided_waits_not : first_expiry (record { lines = waiting ∷ no_check ∷ []; decided = true }) ≡ None
decided_waits_not = refl

-- LINES

met_after_158 : met_text 0 (condition.Owner 150 owner.Lost) 158 ≡ codes "met 1 owner 150 lost after 158"
unfolding digits
met_after_158 = refl

failed_for_a_reason : failed_text 2 (codes "no answer") ≡ codes "failed 3 no answer"
unfolding digits
failed_for_a_reason = refl

passed_with_the_second : passed_text 1 ≡ codes "passed 2"
unfolding digits
passed_with_the_second = refl

as_it_is_read : line_text 0 stop.act ≡ codes "1: expect within 320 owner 150 lost"
unfolding line_text digits
as_it_is_read = refl

-- it was met after 158 and then after 12 ms: the longest counts
met_twice : line_met 12 (line_met 158 waiting) ≡ record { wait = wait.Nothing; met = 2; longest_ms = 158; failure = None }
met_twice = refl

-- the first reason is kept
failed_twice : (line_failed (codes "b") (line_failed (codes "a") waiting)).failure ≡ Some (codes "a")
failed_twice = refl

of_no_line_nothing_changes : with_line 7 (line_met 0) (fresh_checks script) ≡ fresh_checks script
of_no_line_nothing_changes = refl

-- an expectation that begins at 5000 and does not hold waits up to 5320
begins_to_wait : begun_so Waiting 5000 (fresh_state script) 0 320 (condition.Owner 150 owner.Lost)
    ≡ record { step = step.Wait 0; state = record { run = record { ms = 0; line = 0 }; checks = record { lines = waiting ∷ no_check ∷ []; decided = false } } }
begins_to_wait = refl

-- WHAT CAME OF IT

-- a run that has ended before 5000: neither line was reached
not_reached : counts_of script (fresh_checks script) ≡ record { cases = 2; failures = 2; skipped = 0 }
not_reached = refl

-- the first line was met, and the script passed with the second one
passed : counts_of script (record { lines = line_met 158 waiting ∷ line_met 0 no_check ∷ []; decided = true }) ≡ record { cases = 2; failures = 0; skipped = 0 }
passed = refl

-- the script passed before the first line was due
skipped : counts_of script (record { lines = no_check ∷ line_met 0 no_check ∷ []; decided = true }) ≡ record { cases = 2; failures = 0; skipped = 1 }
skipped = refl

a_bad_line : bad_lines (codes "island") script (record { lines = line_failed (codes "owner 150 lost within 320, but of 10.0.0.2 run") waiting ∷ line_met 0 no_check ∷ []; decided = true })
    ≡ codes "eip_station: island: script line 1: expect within 320 owner 150 lost: owner 150 lost within 320, but of 10.0.0.2 run\n"
unfolding between line_text digits
a_bad_line = refl

a_summary : summary_text (codes "island") (record { cases = 2; failures = 1; skipped = 0 }) ≡ codes "eip_station: island: its script has not passed: 2 lines judge, 1 failed, 0 skipped\n"
unfolding counted_text digits
a_summary = refl

-- of a script without such lines nothing is said
no_summary : summary_text (codes "island") (counts_of (record { due = At 5; guard = None; act = act.Do step.Status } ∷ []) (fresh_checks (record { due = At 5; guard = None; act = act.Do step.Status } ∷ []))) ≡ []
no_summary = refl
