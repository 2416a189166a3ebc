-- The outcomes that are recorded by their sums: those of ticks at which a device sends datagrams and no frames. So requests and
-- replies, and with them openings and closes, stay whole.
use Rattle.std.specs.Prelude.{ℕ, ◌==◌, ◌&&◌, not, if◌then◌else◌, Bool, false, List, length, Option, Some, None, Ok, Err}
use Rattle.cip_events.specs.declared.event.Event.{Event}
use Rattle.cip_events.specs.declared.event.Event.TheVariants.{Tick}
use Rattle.cip_events.specs.Outcomes.{Outcome}
use Rattle.trace_outcomes.specs.WrittenOutcomes.{outcome_text}
use Rattle.trace_outcomes.specs.declared.sums.sum.OutcomeSum.{OutcomeSum}
use Rattle.trace_outcomes.specs.Sums.Sums.{sum_of}
use Rattle.trace_outcomes.specs.Sums.SumLines.{sum_line}

-- an answer has datagrams, and no frames
abbrev pub sends_alone : Outcome → Bool
sends_alone (Ok answer) = (length answer.frames == 0) && not (length answer.datagrams == 0)
sends_alone (Err fault) = false

abbrev pub is_summed : Event → Outcome → Bool
is_summed (Tick ms) outcome = sends_alone outcome
is_summed other outcome = false

-- the line of a sum, or the lines of an outcome that has none
abbrev pub summed_text : ℕ → Outcome → Option OutcomeSum → List ℕ
summed_text number outcome (Some sum) = sum_line number sum
summed_text number outcome None = outcome_text number outcome

-- an outcome as it is recorded
abbrev pub recorded_outcome_text : ℕ → Event → Outcome → List ℕ
recorded_outcome_text number event outcome =
    if is_summed event outcome then summed_text number outcome (sum_of number outcome) else outcome_text number outcome
