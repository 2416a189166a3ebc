-- The sum of an outcome, which a record may have in place of the outcome's lines: the verdict, how many frames, datagrams and
-- notices there are, and the CRC-32 of the lines.
use Rattle.std.specs.Prelude.{ℕ, ◌≡◌, List, length, option_map, Option, Some, None, Ok, Err}
use Rattle.trace_outcomes.specs.Sums.Crc32.Crc.{crc32}
use Rattle.cip_events.specs.declared.event.Answer.{Answer}
use Rattle.cip_events.specs.declared.event.Verdict.{Verdict}
use Rattle.cip_events.specs.declared.event.Verdict.TheVariants as verdict
use Rattle.cip_events.specs.Outcomes.{Outcome}
use Rattle.trace_outcomes.specs.WrittenOutcomes.{outcome_text}
use Rattle.trace_outcomes.specs.declared.sums.sum.OutcomeSum.{OutcomeSum}
use Rattle.trace_outcomes.specs.declared.sums.verdict.PlainVerdict.{PlainVerdict}
use Rattle.trace_outcomes.specs.declared.sums.verdict.PlainVerdict.TheVariants as plain

-- a verdict without data
abbrev pub plain_of : Verdict → Option PlainVerdict
plain_of verdict.Done = Some plain.Done
plain_of verdict.BadFrame = Some plain.BadFrame
plain_of verdict.Ignored = Some plain.Ignored
plain_of (verdict.Delivered delivery) = Some (plain.Delivered delivery)
plain_of other = None

-- the verdict itself
abbrev pub verdict_in : PlainVerdict → Verdict
verdict_in plain.Done = verdict.Done
verdict_in plain.BadFrame = verdict.BadFrame
verdict_in plain.Ignored = verdict.Ignored
verdict_in (plain.Delivered delivery) = verdict.Delivered delivery

-- the sum of an answer over a text
abbrev pub answer_sum : List ℕ → Answer → PlainVerdict → OutcomeSum
answer_sum text answer verdict = record {
  verdict = verdict;
  frames = length answer.frames;
  datagrams = length answer.datagrams;
  notices = length answer.notices;
  crc = crc32 text;
}

-- the sum of an outcome over a text; a fault has none, and neither has an answer whose verdict has data
abbrev pub sum_over : List ℕ → Outcome → Option OutcomeSum
sum_over text (Ok answer) = option_map (answer_sum text answer) (plain_of answer.verdict)
sum_over text (Err fault) = None

-- the sum of an outcome: over its lines, with the event's number and an LF in each
abbrev pub sum_of : ℕ → Outcome → Option OutcomeSum
sum_of number outcome = sum_over (outcome_text number outcome) outcome

-- the outcome has the recorded sum over this text, if one is recorded
abbrev pub HasSumOver : List ℕ → Outcome → Option OutcomeSum → Type 0
HasSumOver text outcome None = Unit {0}
HasSumOver text outcome (Some sum) = sum_over text outcome ≡ Some sum

-- the outcome of the event of this number has the recorded sum, if one is recorded
abbrev pub HasSum : ℕ → Outcome → Option OutcomeSum → Type 0
HasSum number outcome sum = HasSumOver (outcome_text number outcome) outcome sum
