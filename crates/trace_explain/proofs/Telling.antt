-- The lines of events, one line longer.
use Rattle.std.proofs.Common.{◌≡◌, ℕ, ◌<◌, ◌+◌, List, [], ◌∷◌, ◌++◌, length, get_or, drop, map, append_assoc}
use Rattle.std.proofs.lemmas.List.{map-append, drop_more}
use Rattle.trace_text.specs.Reading.{Entry}
use Rattle.trace_explain.specs.declared.lines.EventLine.{EventLine}
use Rattle.trace_explain.specs.Lines.{moment_of_line, moments}
use Rattle.trace_text.specs.Clock.{time_after}

pub lines_more : (lines new : List EventLine) (line : EventLine) (time later : ℕ) (entries : List Entry) (i : ℕ) (entry : Entry) → i < length entries → entry ≡ get_or entries i entry → later ≡ time_after time entry.0 entry.1 → new ≡ lines ++ line ∷ [] → moment_of_line line ≡ (i + 1, later) → map moment_of_line new ++ moments (i + 1 + 1) later (drop (i + 1) entries) ≡ map moment_of_line lines ++ moments (i + 1) time (drop i entries)
lines_more lines new line time later entries i entry lt is later_is new_is line_is =
    rw (new_is, map-append moment_of_line lines (line ∷ []), line_is, later_is, drop_more entries i entry lt, ← is) (append_assoc (map moment_of_line lines) ((i + 1, time_after time entry.0 entry.1) ∷ []) (moments (i + 1 + 1) (time_after time entry.0 entry.1) (drop (i + 1) entries)))
