-- An entry of a trace, played at a device.
use Rattle.std.specs.Prelude.{ℕ, ◌≡◌, List, Option, Some, None, Result, Ok, Err}
use Rattle.std.specs.Io.KnownBytes.{Appends}
use Rattle.cip_events.specs.declared.event.Answer.{Answer}
use Rattle.cip_events.specs.declared.event.StepFault.{StepFault}
use Rattle.cip_events.specs.Outcomes.{Outcome}
use Rattle.cip_tables.specs.declared.table.DeviceTable.{DeviceTable}
use Rattle.cip_tables.specs.Run.{outcome_of, table_of}
use Rattle.trace_outcomes.specs.WrittenOutcomes.{outcome_text}
use Rattle.trace_stepper.specs.declared.stepper.StepperFault.{StepperFault}
use Rattle.trace_stepper.specs.declared.stepper.StepperFault.TheVariants as fault
use Rattle.trace_stepper.specs.Compared.{AgreesWith}
use Rattle.trace_stepper.specs.Written.{BeginsToWrite}
use Rattle.trace_outcomes.specs.declared.sums.sum.OutcomeSum.{OutcomeSum}
use Rattle.trace_outcomes.specs.Sums.Sums.{HasSum}
use Rattle.trace_text.specs.Reading.{Entry}
use Rattle.trace_files.specs.declared.entry_reader.TraceEntry.{TraceEntry}

-- the step of a table
abbrev pub Said : Type 0
Said = Result (Answer × DeviceTable) StepFault

-- A device took an event, and answered the outcome of the step; or an allocation was refused, and its table stays.
abbrev pub StepsTo : {F : Type 0} → Said → DeviceTable → Result Outcome F → DeviceTable → Type 0
StepsTo said old (Ok outcome) new = (outcome ≡ outcome_of said) × (new ≡ table_of old said)
StepsTo said old (Err refused) new = new ≡ old

-- The outcome of the step is written, under this number; or the stream refused what is left of it; or nothing is written
-- for want of memory.
abbrev pub WritesOutcome : Said → ℕ → Option (List ℕ) → Option (List ℕ) → Result Unit StepperFault → Type 0
WritesOutcome said number old new (Ok done) = Appends old new (outcome_text number (outcome_of said))
WritesOutcome said number old new (Err fault.Write) = BeginsToWrite old (outcome_text number (outcome_of said)) new
WritesOutcome said number old new (Err fault.OutOfMemory) = new ≡ old
WritesOutcome said number old new (Err fault.Profile) = ⊥
WritesOutcome said number old new (Err fault.WrongKind) = ⊥

-- the recorded outcome of an entry was given, or one with its recorded sum, or none is recorded
abbrev pub EntryAgrees : TraceEntry → Outcome → ℕ → Type 0
EntryAgrees entry outcome number = AgreesWith entry.recorded (Some outcome) × HasSum number outcome entry.sum

-- The number of the first entry whose recorded outcome was not given, with the entry of this number more.
abbrev pub JudgesOn : Option ℕ → TraceEntry → Outcome → ℕ → Option ℕ → Type 0
JudgesOn (Some first) entry outcome number judged = judged ≡ Some first
JudgesOn None entry outcome number None = EntryAgrees entry outcome number
JudgesOn None entry outcome number (Some first) = (first ≡ number) × ¬ (EntryAgrees entry outcome number)

-- FILLED ENTRIES

-- the outcome that an entry has once it is filled: that of the step in place of a sum
abbrev pub filled_outcome : Option Outcome → Option OutcomeSum → Said → Option Outcome
filled_outcome recorded None said = recorded
filled_outcome recorded (Some sum) said = Some (outcome_of said)

-- A filled entry has the event, and the outcome of the step if the sum of an outcome is recorded; each other one is as it is.
abbrev pub IsFilled : {F : Type 0} → TraceEntry → Said → Result Entry F → Type 0
IsFilled entry said (Ok filled) = filled ≡ (entry.event, filled_outcome entry.recorded entry.sum said)
IsFilled entry said (Err fault) = Unit {0}

-- The number of the first entry that has another sum than its outcome, with the entry of this number more.
abbrev pub SumsOn : Option ℕ → Option OutcomeSum → Outcome → ℕ → Option ℕ → Type 0
SumsOn (Some first) sum outcome number judged = judged ≡ Some first
SumsOn None sum outcome number None = HasSum number outcome sum
SumsOn None sum outcome number (Some first) = (first ≡ number) × ¬ (HasSum number outcome sum)
