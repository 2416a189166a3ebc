-- What the lines of a script do: a call, or what a script expects, fails or passes with.
use Rattle.std.specs.Prelude.{ℕ, ◌==◌, ◌||◌, nat_lt, if◌then◌else◌, Bool, List, [], ◌∷◌, codes, length, ok_or, Result, Ok, Err}
use Rattle.std.specs.List.{list_any}
use Rattle.plant_rim.specs.declared.file.faults.PlantLineFault.{PlantLineFault}
use Rattle.plant_rim.specs.declared.file.faults.PlantLineFault.TheVariants as fault
use Rattle.plant_rim.specs.File.Calls.{plant_call_of}
use Rattle.plant_rim.specs.File.Made.{made, within_of}
use Rattle.plant_rim.specs.File.Texts.{behind_word, first_word}
use Rattle.script_checks.specs.declared.condition.Condition.{Condition}
use Rattle.script_checks.specs.Reading.{condition_of}
use Rattle.station.specs.declared.script.lines.ScriptAct.{ScriptAct}
use Rattle.station.specs.declared.script.lines.ScriptAct.TheVariants as act
use Rattle.trace_words.specs.Reader.{Meanings, meaning}

abbrev pub condition_or_fault : List ℕ → Result Condition PlantLineFault
condition_or_fault text = ok_or (condition_of text) fault.BadCondition

-- a call of the device, or of its plant
abbrev pub done_of : List ℕ → Result ScriptAct PlantLineFault
done_of text = made act.Do (ok_or (plant_call_of text) fault.NoCall)

-- EXPECTATIONS

abbrev pub expect_of : ℕ → Result Condition PlantLineFault → Result ScriptAct PlantLineFault
expect_of within condition = made (act.Expect within) condition

abbrev pub expect_within : Result ℕ PlantLineFault → List ℕ → Result ScriptAct PlantLineFault
expect_within (Ok within) text = expect_of within (condition_or_fault text)
expect_within (Err why) text = Err why

abbrev pub within_text : List ℕ → Result ScriptAct PlantLineFault
within_text rest = expect_within (within_of (first_word rest)) (behind_word rest)

abbrev pub at_once : List ℕ → (rest : List ℕ) → Result ScriptAct PlantLineFault
at_once text rest = expect_of 0 (condition_or_fault text)

-- [within MS] CONDITION
abbrev pub expected_of : List ℕ → Result ScriptAct PlantLineFault
expected_of rest = meaning ((codes "within", within_text) ∷ []) (at_once rest) (first_word rest) (behind_word rest)

-- DECISIONS

abbrev pub is_control : ℕ → Bool
is_control byte = nat_lt byte 32 || (byte == 127)

abbrev pub has_control : List ℕ → Bool
has_control text = list_any is_control text

-- a text of 1 to 200 bytes without control characters
abbrev pub failing_of : List ℕ → Result ScriptAct PlantLineFault
failing_of text = if (length text == 0) || (nat_lt 200 (length text) || has_control text) then Err fault.BadText else Ok (act.Fail text)

abbrev pub passing_of : List ℕ → Result ScriptAct PlantLineFault
passing_of rest = if length rest == 0 then Ok act.Pass else Err fault.NoCall

-- ACTS

abbrev pub act_meanings : Meanings (List ℕ → Result ScriptAct PlantLineFault)
act_meanings =
    (codes "expect", expected_of)
    ∷ (codes "fail", failing_of)
    ∷ (codes "pass", passing_of)
    ∷ []

abbrev pub done_text : List ℕ → (rest : List ℕ) → Result ScriptAct PlantLineFault
done_text text rest = done_of text

-- what a text does
unfoldable pub act_of : List ℕ → Result ScriptAct PlantLineFault
act_of text = meaning act_meanings (done_text text) (first_word text) (behind_word text)
