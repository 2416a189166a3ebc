-- How a line behind the profile is read: an event, or a part or the sum of the outcome of the event that came last.
use Rattle.std.specs.Prelude.{ℕ, ◌+◌, ◌-◌, ◌^◌, ◌≡◌, ◌==◌, ◌&&◌, ◌||◌, nat_le, min, is_some, Bool, false, if◌then◌else◌, List, [], ◌∷◌, option_map, Option, Some, None, Result, Ok, Err}
use Rattle.cip_events.specs.declared.event.Event.{Event}
use Rattle.cip_events.specs.Outcomes.{Outcome}
use Rattle.trace_outcomes.specs.declared.part.Part.{Part}
use Rattle.trace_outcomes.specs.Parts.{part_reader}
use Rattle.trace_text.specs.Recorded.{recorded_with}
use Rattle.trace_text.specs.Forms.{event_of, is_ascii}
use Rattle.trace_outcomes.specs.declared.sums.sum.OutcomeSum.{OutcomeSum}
use Rattle.trace_outcomes.specs.Sums.SumLines.{sum_reader}
use Rattle.trace_words.specs.declared.words.TextFault.{TextFault}
use Rattle.trace_words.specs.declared.words.TextFault.TheVariants.{Bad, OutOfMemory}
use Rattle.trace_words.specs.Reader.{Reader, ◌>>=◌, gives, next_word}
use Rattle.trace_words.specs.Words.{number_of, words_of}
use Rattle.trace_files.specs.declared.entry_reader.EntryReader.{EntryReader}
use Rattle.trace_files.specs.declared.entry_reader.TraceEntry.{TraceEntry}

-- the line begins as the number of an event does
abbrev pub begins_with_digit : List ℕ → Bool
begins_with_digit [] = false
begins_with_digit (first ∷ rest) = nat_le 48 first && nat_le first 57

-- the number of an event, and a part of its outcome
abbrev pub recorded_reader : Reader (ℕ × Part)
recorded_reader = do
  number ← next_word (number_of 64)
  part ← part_reader
  gives (number, part)

-- the value of a line of a recorded outcome
unfoldable pub recorded_of : List ℕ → Option (ℕ × Part)
recorded_of line = if is_ascii line then option_map (λ got. got.0) (recorded_reader (words_of line)) else None

-- the value of a line with the sum of an outcome: the number of the event, and the sum
unfoldable pub sum_in : List ℕ → Option (ℕ × OutcomeSum)
sum_in line = if is_ascii line then option_map (λ got. got.0) (sum_reader (words_of line)) else None

-- the entry that is whole with a line, and the reader behind the line
abbrev pub Taken : Type 0
Taken = Option TraceEntry × EntryReader

-- the entry of the event that came last
abbrev pub entry_of : EntryReader → TraceEntry
entry_of reader = record { event = reader.event; recorded = reader.recorded; sum = reader.sum }

-- an event comes behind the last one; 2^64 - 1 is the last number
abbrev pub next_reader : EntryReader → Event → EntryReader
next_reader reader event = record { number = min (reader.number + 1) (2 ^ 64 - 1); event = event; recorded = None; sum = None }

abbrev pub with_event : EntryReader → Option Event → Option Taken
with_event reader None = None
with_event reader (Some event) = Some (Some (entry_of reader), next_reader reader event)

abbrev pub with_outcome : EntryReader → Option Outcome → Option Taken
with_outcome reader None = None
with_outcome reader (Some outcome) = Some (None, record reader { recorded = Some outcome })

-- a part of the outcome of the event that came last, whose number it has, and whose sum is not recorded
abbrev pub with_part : EntryReader → Option (ℕ × Part) → Option Taken
with_part reader None = None
with_part reader (Some got) =
    if got.0 == reader.number
    then (if is_some reader.sum then None else with_outcome reader (recorded_with reader.recorded got.1))
    else None

-- the sum of the outcome of the event that came last, whose number it has, and of whose outcome nothing is recorded
abbrev pub with_sum : EntryReader → ℕ → OutcomeSum → Option Taken
with_sum reader number sum =
    if number == reader.number
    then (if is_some reader.recorded || is_some reader.sum then None else Some (None, record reader { sum = Some sum }))
    else None

-- a line of a recorded outcome, which may be a sum
abbrev pub with_recorded : EntryReader → List ℕ → Option (ℕ × OutcomeSum) → Option Taken
with_recorded reader line (Some got) = with_sum reader got.0 got.1
with_recorded reader line None = with_part reader (recorded_of line)

-- what a line does that is not skipped; None if it is not allowed there
abbrev pub taken_line : EntryReader → List ℕ → Option Taken
taken_line reader line = if begins_with_digit line then with_recorded reader line (sum_in line) else with_event reader (event_of line)

-- A function did what the line does, or found it bad. If an allocation was refused, nothing is promised.
abbrev pub TakesLine : Option Taken → Result (Option TraceEntry) TextFault → EntryReader → Type 0
TakesLine said (Ok entry) reader = said ≡ Some (entry, reader)
TakesLine said (Err Bad) reader = said ≡ None
TakesLine said (Err OutOfMemory) reader = Unit {0}
