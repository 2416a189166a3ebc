-- The output of a run of the program.
use Rattle.std.specs.Prelude.{ℕ, ◌≡◌, ◌≤◌, ◌<◌, ◌⊎◌, Bool, true, false, List, ◌++◌, length, codes, Option, Some, None, Result, Ok, Err, IfSome}
use Rattle.std.specs.Io.KnownBytes.{Appends}
use Rattle.trace_text.specs.declared.trace.Trace.{Trace}
use Rattle.trace_text.specs.declared.trace.TraceFault.TheVariants as trace
use Rattle.trace_text.specs.Reading.{trace_reading}
use Rattle.trace_outcomes.specs.WrittenOutcomes.{outcomes_text}
use Rattle.trace_stepper.specs.Compared.{IsJudged}
use Rattle.trace_stepper.specs.Playing.{WritesFirst}
use Rattle.trace_stepper.specs.Stepping.{outcomes_of_trace}
use Rattle.trace_stepper.specs.Written.{BeginsToWrite}
use Rattle.eip_line.specs.Faults.{numbered_line}
use Rattle.eip_line.specs.declared.faults.ProgramFault.{ProgramFault}
use Rattle.eip_line.specs.declared.faults.ProgramFault.TheVariants as program

-- the most bytes of a trace
abbrev pub longest_trace : ℕ
longest_trace = 16777216

-- the trace that is read, where the bytes of the input are known
abbrev pub Reads : Option (List ℕ) → Trace → Type 0
Reads input trace = IfSome input (λ text. (trace_reading text ≡ Ok trace) × (length text ≤ longest_trace))

-- the line with the number of the first difference
abbrev pub differs_line : ℕ → List ℕ
differs_line number = numbered_line (codes "differs ") number

-- all outcomes of the trace are written, and all are as recorded
abbrev pub PrintsRun : Option (List ℕ) → Option (List ℕ) → Option (List ℕ) → Type 0
PrintsRun input old new = (trace : Trace) × (Reads input trace × Appends old new (outcomes_text 1 (outcomes_of_trace trace)) × IsJudged trace.events (outcomes_of_trace trace) (length trace.events) None)

-- all outcomes are written, and a last line with the number of the first that is not as recorded
abbrev pub PrintsDifference : Option (List ℕ) → Option (List ℕ) → Option (List ℕ) → Type 0
PrintsDifference input old new = (trace : Trace) × ((number : ℕ) × (Reads input trace × Appends old new (outcomes_text 1 (outcomes_of_trace trace) ++ differs_line number) × IsJudged trace.events (outcomes_of_trace trace) (length trace.events) (Some number)))

-- the first outcomes of the trace are written, each whole
abbrev pub PrintsFirst : Option (List ℕ) → Option (List ℕ) → Option (List ℕ) → Type 0
PrintsFirst input old new = (trace : Trace) × (Reads input trace × WritesFirst trace old new)

-- a beginning of the outcomes' text is written; or all of it, and a beginning of the last line
abbrev pub BeginsToPrint : Option (List ℕ) → Option (List ℕ) → Option (List ℕ) → Type 0
BeginsToPrint input old new = (trace : Trace) × (Reads input trace × (BeginsToWrite old (outcomes_text 1 (outcomes_of_trace trace)) new ⊎ ((number : ℕ) × (IsJudged trace.events (outcomes_of_trace trace) (length trace.events) (Some number) × BeginsToWrite old (outcomes_text 1 (outcomes_of_trace trace) ++ differs_line number) new))))

-- The output when a run ends so: a trace that is refused prints nothing.
abbrev pub IsStepped : Option (List ℕ) → Option (List ℕ) → Option (List ℕ) → Result Bool ProgramFault → Type 0
IsStepped input old new (Ok true) = PrintsRun input old new
IsStepped input old new (Ok false) = PrintsDifference input old new
IsStepped input old new (Err program.TooLong) = IfSome input (λ text. longest_trace < length text) × (new ≡ old)
IsStepped input old new (Err (program.BadLine number)) = IfSome input (λ text. trace_reading text ≡ Err (trace.BadLine number)) × (new ≡ old)
IsStepped input old new (Err (program.BadProfile number)) = IfSome input (λ text. trace_reading text ≡ Err (trace.BadProfile number)) × (new ≡ old)
IsStepped input old new (Err program.Read) = new ≡ old
IsStepped input old new (Err program.OutOfMemory) = (new ≡ old) ⊎ PrintsFirst input old new
IsStepped input old new (Err program.Write) = BeginsToPrint input old new
IsStepped input old new (Err fault) = ⊥

-- the faults that end the reading of the text
abbrev pub IsTextFault : ProgramFault → Type 0
IsTextFault program.TooLong = Unit {0}
IsTextFault program.Read = Unit {0}
IsTextFault program.OutOfMemory = Unit {0}
IsTextFault fault = ⊥

-- the trace was read, or it was refused
abbrev pub IsTraceRead : Option (List ℕ) → Result Trace ProgramFault → Type 0
IsTraceRead input (Ok trace) = Reads input trace
IsTraceRead input (Err program.TooLong) = IfSome input (λ text. longest_trace < length text)
IsTraceRead input (Err (program.BadLine number)) = IfSome input (λ text. trace_reading text ≡ Err (trace.BadLine number))
IsTraceRead input (Err (program.BadProfile number)) = IfSome input (λ text. trace_reading text ≡ Err (trace.BadProfile number))
IsTraceRead input (Err program.Read) = Unit {0}
IsTraceRead input (Err program.OutOfMemory) = Unit {0}
IsTraceRead input (Err fault) = ⊥
