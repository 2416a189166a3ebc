-- What is written while a device takes the events of a trace.
use Rattle.std.specs.Prelude.{ℕ, ◌≡◌, ◌≢◌, Bool, false, List, ◌++◌, length, Option, None, Result, Ok, Err}
use Rattle.std.specs.Io.KnownBytes.{Appends}
use Rattle.cip_events.specs.Outcomes.{Outcome}
use Rattle.cip_tables.specs.Step.{config_fault}
use Rattle.trace_text.specs.declared.trace.Trace.{Trace}
use Rattle.trace_outcomes.specs.WrittenOutcomes.{outcomes_text}
use Rattle.trace_stepper.specs.declared.stepper.StepperFault.{StepperFault}
use Rattle.trace_stepper.specs.declared.stepper.StepperFault.TheVariants as fault
use Rattle.trace_stepper.specs.Compared.{IsJudged}
use Rattle.trace_stepper.specs.Stepping.{outcomes_of_trace}
use Rattle.trace_stepper.specs.Written.{BeginsToWrite}

-- the first outcomes of the trace are written, each whole, where the written bytes are known
abbrev pub WritesFirst : Trace → Option (List ℕ) → Option (List ℕ) → Type 0
WritesFirst trace old new = (first : List Outcome) × ((rest : List Outcome) × ((outcomes_of_trace trace ≡ first ++ rest) × Appends old new (outcomes_text 1 first)))

-- All outcomes are written, and the first one that differs from the recorded one is found; or an allocation was
-- refused, and the first outcomes are written; or a write failed, and a beginning of the text is written; or the
-- profile is wrong, or not accepted by the device, and nothing is written.
abbrev pub IsPlayed : Bool → Trace → Option (List ℕ) → Option (List ℕ) → Result (Option ℕ) StepperFault → Type 0
IsPlayed accepted trace old new (Ok differs) = Appends old new (outcomes_text 1 (outcomes_of_trace trace)) × IsJudged trace.events (outcomes_of_trace trace) (length trace.events) differs
IsPlayed accepted trace old new (Err fault.OutOfMemory) = WritesFirst trace old new
IsPlayed accepted trace old new (Err fault.Write) = BeginsToWrite old (outcomes_text 1 (outcomes_of_trace trace)) new
IsPlayed accepted trace old new (Err fault.Profile) = (config_fault trace.config ≢ None) × (new ≡ old)
IsPlayed accepted trace old new (Err fault.WrongKind) = (accepted ≡ false) × (new ≡ old)
