-- The lines of a trace before its first event, and their reading as a trace.
use Rattle.std.specs.Prelude.{ℕ, ◌+◌, ◌-◌, ◌^◌, ◌≡◌, ◌≤◌, ◌||◌, min, nat_eq, if◌then◌else◌, Bool, List, [], ◌∷◌, ◌++◌, codes, Result, Ok, Err}
use Rattle.std.specs.List.{starts_with}
use Rattle.cip_tables.specs.declared.table.Config.{Config}
use Rattle.trace_text.specs.declared.trace.Trace.{Trace}
use Rattle.trace_text.specs.declared.trace.TraceFault.{TraceFault}
use Rattle.trace_text.specs.declared.trace.TraceFault.TheVariants as fault
use Rattle.trace_text.specs.Reading.{is_skipped, trace_reading}

-- a line with its LF; of a line that is skipped the LF alone
abbrev pub kept_line : List ℕ → List ℕ
kept_line line = (if is_skipped line then [] else line) ++ 10 ∷ []

-- The line ends an adapter's profile, or is that of a slot, behind which a scanner's profile may end.
abbrev pub may_end : List ℕ → Bool
may_end line = starts_with nat_eq line (codes "heartbeat ") || starts_with nat_eq line (codes "slot ")

-- one line more; a count stays at 2^64 - 1
abbrev pub one_more : ℕ → ℕ
one_more lines = min (lines + 1) (2 ^ 64 - 1)

-- one of these lines is bad, and no line before it
abbrev pub IsBadSoFar : List ℕ → ℕ → TraceFault → Type 0
IsBadSoFar text lines (fault.BadLine number) = (trace_reading text ≡ Err (fault.BadLine number)) × (number ≤ lines)
IsBadSoFar text lines (fault.BadProfile number) = ⊥
IsBadSoFar text lines fault.OutOfMemory = Unit {0}

-- the configuration of a reading
abbrev pub config_of : Result Trace TraceFault → Result Config TraceFault
config_of (Ok trace) = Ok trace.config
config_of (Err why) = Err why

-- A function answers this configuration or fault, or that an allocation was refused.
abbrev pub AnswersConfig : Result Config TraceFault → Result Config TraceFault → Type 0
AnswersConfig said (Err fault.OutOfMemory) = Unit {0}
AnswersConfig said result = result ≡ said
