-- What a recorder has written.
use Rattle.std.specs.Prelude.{ℕ, ◌≡◌, ◌+◌, ◌-◌, ◌^◌, ◌<◌, ◌≤◌, min, List, [], ◌∷◌, ◌++◌, length, Option, Some, None, Err, IfSome, IsSome, IsSomeAnd}
use Rattle.std.specs.Io.KnownBytes.{Appends}
use Rattle.cip_events.specs.declared.event.Event.{Event}
use Rattle.cip_events.specs.declared.event.StepFault.TheVariants as fault
use Rattle.cip_events.specs.Outcomes.{Outcome}
use Rattle.cip_tables.specs.declared.table.Config.{Config}
use Rattle.trace_words.specs.Words.{line_text}
use Rattle.trace_text.specs.Written.{config_lines, event_words}
use Rattle.station_record.specs.declared.fault.RecordFault.{RecordFault}
use Rattle.station_record.specs.declared.fault.RecordFault.TheVariants as end
use Rattle.station_record.specs.declared.recorder.Recorder.{Recorder}
use Rattle.station_record.specs.Shortened.{Repeats, recorded_event}
use Rattle.station_record.specs.Summed.{recorded_outcome_text}

-- an event of this number as it is recorded, and its outcome or the sum of it
abbrev pub entry_text : ℕ → Event → Outcome → List ℕ
entry_text number event outcome = line_text (event_words (recorded_event event outcome)) ++ recorded_outcome_text number event outcome

-- A text was handed to a record that may have so many bytes more, with this answer. An open record has taken it, and answers
-- nothing; or it has ended, and answers why: it has no room for this text, its sink does not take it, or there was no memory for
-- it. A record that has ended takes nothing.
abbrev pub IsRecordedAs : {W : Type 0} → (W → Option (List ℕ)) → (W → List ℕ → Type 0) → ℕ → Option W → Option W → List ℕ → Option RecordFault → Type 0
IsRecordedAs contents accepts left None new text answer = (new ≡ None) × (answer ≡ None)
IsRecordedAs contents accepts left (Some old) None text None = ⊥
IsRecordedAs contents accepts left (Some old) None text (Some end.Refused) = accepts old text → ⊥
IsRecordedAs contents accepts left (Some old) None text (Some end.Full) = left < length text
IsRecordedAs contents accepts left (Some old) None text (Some end.OutOfMemory) = Unit {0}
IsRecordedAs contents accepts left (Some old) (Some new) text None = Appends (contents old) (contents new) text × (length text ≤ left)
IsRecordedAs contents accepts left (Some old) (Some new) text (Some fault) = ⊥

-- how many bytes a record may have behind a text, if it is open
abbrev pub left_after : {W : Type 0} → Option W → ℕ → List ℕ → ℕ
left_after None left text = left
left_after (Some out) left text = left - length text

-- why a record has ended, once it was handed a text with this answer
abbrev pub said_end : Option RecordFault → Option RecordFault → Option RecordFault
said_end before None = before
said_end before (Some fault) = Some fault

-- the number of the next event; 2^64 - 1 is the last number
abbrev pub next_number : {W : Type 0} → Recorder W → ℕ
next_number recorder = min (recorder.count + 1) (2 ^ 64 - 1)

-- The next event and its outcome were handed to a record, with this answer. Those of an event that found no memory were not.
abbrev pub IsNoted : {W : Type 0} → (W → Option (List ℕ)) → (W → List ℕ → Type 0) → Recorder W → Event → Outcome → Recorder W → Option RecordFault → Type 0
IsNoted contents accepts old event (Err fault.OutOfMemory) new answer = (new ≡ old) × (answer ≡ None)
IsNoted contents accepts old event outcome new answer =
    IsRecordedAs contents accepts old.left old.out new.out (entry_text (next_number old) event outcome) answer
    × ((new.ended ≡ said_end old.ended answer) × (new.left ≡ left_after new.out old.left (entry_text (next_number old) event outcome)))

-- events with their outcomes, the first of this number
abbrev pub entries_text : ℕ → List (Event × Outcome) → List ℕ
entries_text number [] = []
entries_text number (entry ∷ entries) = entry_text number entry.0 entry.1 ++ entries_text (number + 1) entries

-- the text of a record: the lines of a profile, and the events with their outcomes
abbrev pub record_text : Config → List (Event × Outcome) → List ℕ
record_text config entries = config_lines config ++ entries_text 1 entries

-- the bytes of a record are known: its head, and its text
abbrev pub IsTextOf : Option (List ℕ) → List ℕ → Config → List (Event × Outcome) → Type 0
IsTextOf known head config entries = IsSomeAnd known (λ bytes. bytes ≡ head ++ record_text config entries)

-- the record has these events with their outcomes behind its head, if it is open
pub record Records {W : Type 0} (contents : W → Option (List ℕ)) (recorder : Recorder W) (head : List ℕ) (config : Config) (entries : List (Event × Outcome)) : Type 0 where
  pub counts : recorder.count ≡ length entries
  pub text : IfSome recorder.out (λ out. IsTextOf (contents out) head config entries)

-- the entry of an event, if it found memory
abbrev pub entries_of : Event → Outcome → List (Event × Outcome)
entries_of event (Err fault.OutOfMemory) = []
entries_of event outcome = (event, outcome) ∷ []

-- the record goes on with an event and its outcome
abbrev pub GoesOn : {W : Type 0} → (W → Option (List ℕ)) → Recorder W → Event → Outcome → Recorder W → Type 0
GoesOn contents old event outcome new = (head : List ℕ) (config : Config) (entries : List (Event × Outcome)) → length entries < 2 ^ 64 - 1 → Records contents old head config entries → Records contents new head config (entries ++ entries_of event outcome)

-- a record that ends says why, and until then and from then on it says nothing else
abbrev pub SaysEnd : {W : Type 0} → Option W → Option W → Option RecordFault → Option RecordFault → Type 0
SaysEnd None new before after = (new ≡ None) × (after ≡ before)
SaysEnd (Some old) None before after = IsSome after
SaysEnd (Some old) (Some new) before after = after ≡ before

-- A recorder has noted an event and its outcome, in words that every device takes as it takes the event. If its record has
-- ended with them, it says why.
abbrev pub Notes : {W : Type 0} → (W → Option (List ℕ)) → Recorder W → Event → Outcome → Recorder W → Type 0
Notes contents old event outcome new = GoesOn contents old event outcome new × (Repeats event outcome × SaysEnd old.out new.out old.ended new.ended)
