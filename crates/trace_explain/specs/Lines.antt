-- The number and the time of each event of a trace.
use Rattle.std.specs.Prelude.{ℕ, ◌+◌, List, [], ◌∷◌}
use Rattle.trace_text.specs.Clock.{time_after}
use Rattle.trace_text.specs.Reading.{Entry}
use Rattle.trace_explain.specs.declared.lines.EventLine.{EventLine}

abbrev pub moment_of_line : EventLine → ℕ × ℕ
moment_of_line line = (line.number, line.time)

-- the numbers and times of events, the first of this number, from this time on
abbrev pub moments : ℕ → ℕ → List Entry → List (ℕ × ℕ)
moments number time [] = []
moments number time (entry ∷ entries) =
    let after = time_after time entry.0 entry.1 in
    (number, after) ∷ moments (number + 1) after entries
