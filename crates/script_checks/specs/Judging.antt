-- How an expectation is judged. Times are in milliseconds since the script began.
use Rattle.std.specs.Prelude.{ℕ, ◌+◌, ◌-◌, ◌^◌, ◌≤◌, ◌<◌, ◌≡◌, min, nat_lt, if◌then◌else◌, Bool, true, false}
use Rattle.script_checks.specs.declared.judging.ExpectationState.{ExpectationState}
use Rattle.script_checks.specs.declared.judging.ExpectationState.TheVariants.{Waiting, Met, Failed}

-- the last moment at which an expectation that begins now can be met: it ends with the numbers
abbrev pub deadline : (now within : ℕ) → ℕ
deadline now within = min (now + within) (2 ^ 64 - 1)

abbrev pub in_time : (holds : Bool) → ExpectationState
in_time true = Met
in_time false = Waiting

-- what is decided now of an expectation that can be met until then
abbrev pub judgement : (holds : Bool) → (now until : ℕ) → ExpectationState
judgement holds now until = if nat_lt until now then Failed else in_time holds

-- what a judgement means
abbrev pub IsJudgement : (holds : Bool) → (now until : ℕ) → ExpectationState → Type 0
IsJudgement holds now until Met = (now ≤ until) × (holds ≡ true)
IsJudgement holds now until Waiting = (now ≤ until) × (holds ≡ false)
IsJudgement holds now until Failed = until < now

-- Each judgement is what it means.
abbrev pub JudgementsAreExact : Type 0
JudgementsAreExact = (holds : Bool) (now until : ℕ) → IsJudgement holds now until (judgement holds now until)
