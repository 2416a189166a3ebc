-- What the lines of a script do, worked by hand.
use Rattle.std.proofs.Common.{◌≡◌, [], Some, Ok, Err, refl}
use Rattle.std.specs.Prelude.{codes}
use Rattle.trace_words.specs.Words.{bytes_of, number_of}
use Rattle.plant_rim.specs.declared.file.faults.PlantLineFault.TheVariants as fault
use Rattle.plant_rim.specs.declared.file.line.PlantLine.TheVariants as line
use Rattle.plant_rim.specs.File.Acts.{act_of}
use Rattle.plant_rim.specs.File.Lines.{when_line}
use Rattle.plant_rim.specs.File.Texts.{behind_word, cut_at, first_word}
use Rattle.script_checks.specs.declared.condition.Condition.TheVariants as condition
use Rattle.script_checks.specs.declared.condition.OwnerState.TheVariants as owner
use Rattle.script_checks.specs.Reading.{condition_of}
use Rattle.station.specs.declared.script.lines.DueTime.TheVariants.{At}
use Rattle.station.specs.declared.script.lines.ScriptAct.TheVariants as act

an_expectation : act_of (codes "expect within 320 owner 150 lost") ≡ Ok (act.Expect 320 (condition.Owner 150 owner.Lost))
unfolding act_of first_word behind_word condition_of number_of
an_expectation = refl

at_once : act_of (codes "expect output 150 = -") ≡ Ok (act.Expect 0 (condition.Output 150 []))
unfolding act_of first_word behind_word condition_of number_of bytes_of
at_once = refl

no_time : act_of (codes "expect within soon owner 150 lost") ≡ Err fault.BadTime
unfolding act_of first_word behind_word condition_of number_of
no_time = refl

no_condition : act_of (codes "expect owner 150") ≡ Err fault.BadCondition
unfolding act_of first_word behind_word condition_of number_of
no_condition = refl

a_failure : act_of (codes "fail no answer") ≡ Ok (act.Fail (codes "no answer"))
unfolding act_of first_word behind_word
a_failure = refl

no_text : act_of (codes "fail") ≡ Err fault.BadText
unfolding act_of first_word behind_word
no_text = refl

passes : act_of (codes "pass") ≡ Ok act.Pass
unfolding act_of first_word behind_word
passes = refl

passes_alone : act_of (codes "pass now") ≡ Err fault.NoCall
unfolding act_of first_word behind_word
passes_alone = refl

-- ` do ` ends a condition
is_cut : cut_at (codes " do ") (codes "slot 0 idle do pass") ≡ Some (codes "slot 0 idle", codes "pass")
unfolding cut_at
is_cut = refl

a_guard : when_line (codes "owner 150 lost do pass") ≡ Ok (line.Script (record { due = At 0; guard = Some (condition.Owner 150 owner.Lost); act = act.Pass }))
unfolding cut_at act_of first_word behind_word condition_of number_of
a_guard = refl

nothing_is_done : when_line (codes "owner 150 lost pass") ≡ Err fault.NoDo
unfolding cut_at
nothing_is_done = refl
