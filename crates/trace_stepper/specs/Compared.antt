-- How outcomes agree with the recorded ones of a trace.
use Rattle.std.specs.Prelude.{ℕ, ◌≡◌, ◌<◌, ◌+◌, List, length, slice_get, option_and_then, Option, Some, None, Result, Ok, Err}
use Rattle.cip_events.specs.Outcomes.{Outcome}
use Rattle.trace_text.specs.Reading.{Entry}
use Rattle.trace_stepper.specs.declared.compared.Differs.{Differs}

-- if an outcome is recorded, this one was given
abbrev pub AgreesWith : Option Outcome → Option Outcome → Type 0
AgreesWith None given = Unit {0}
AgreesWith (Some recorded) given = given ≡ Some recorded

-- the recorded outcome of the event at this index
abbrev pub recorded_at : List Entry → ℕ → Option Outcome
recorded_at entries place = option_and_then (λ entry. entry.1) (slice_get entries place)

-- the recorded outcome at this index, if there is one, was given there
abbrev pub AgreeAt : List Entry → List Outcome → ℕ → Type 0
AgreeAt entries outcomes place = AgreesWith (recorded_at entries place) (slice_get outcomes place)

abbrev pub AgreeBefore : List Entry → List Outcome → ℕ → Type 0
AgreeBefore entries outcomes count = (place : ℕ) → place < count → AgreeAt entries outcomes place

-- All recorded outcomes were given; or the event of this number, from 1, is the first whose recorded outcome was not.
abbrev pub IsCompared : List Entry → List Outcome → Result Unit Differs → Type 0
IsCompared entries outcomes (Ok done) = AgreeBefore entries outcomes (length entries)
IsCompared entries outcomes (Err differs) = (place : ℕ) × (differs.0 ≡ place + 1) × AgreeBefore entries outcomes place × ¬ (AgreeAt entries outcomes place)

-- Of the first events: all recorded outcomes were given, or the event of this number is the first whose recorded
-- outcome was not.
abbrev pub IsJudged : List Entry → List Outcome → ℕ → Option ℕ → Type 0
IsJudged entries outcomes count None = AgreeBefore entries outcomes count
IsJudged entries outcomes count (Some number) = (place : ℕ) × (number ≡ place + 1) × AgreeBefore entries outcomes place × ¬ (AgreeAt entries outcomes place)

-- How a judgement goes on with the outcome at this index: the first difference stays.
abbrev pub JudgesOn : List Entry → ℕ → Outcome → Option ℕ → Option ℕ → Type 0
JudgesOn entries place outcome (Some number) judged = judged ≡ Some number
JudgesOn entries place outcome None None = AgreesWith (recorded_at entries place) (Some outcome)
JudgesOn entries place outcome None (Some number) = (number ≡ place + 1) × ¬ (AgreesWith (recorded_at entries place) (Some outcome))
