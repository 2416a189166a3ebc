use Rattle.std.proofs.Common.{◌≡◌, ◌+◌, ◌≤◌, ◌++◌, [], length}
use Rattle.trace_words.specs.PointNames.Labels.{lines_in}
use Rattle.trace_words.specs.PointNames.Reading.{bad_lines, names_behind}
use Rattle.trace_words.specs.PointNames.Things.{names_in}
use Rattle.trace_words.proofs.point_names.names.read_names.Given as goal

-- the lines that are left say the other names, and have the other bad ones
abbrev pub invariant-loop-line : goal.invariant-loop-line
invariant-loop-line l = (names_behind (names_in l.names) (lines_in l.rest) ≡ names_behind [] (lines_in l.text)) × ((l.bad.items ++ bad_lines l.number (names_in l.names) (lines_in l.rest) ≡ bad_lines 1 [] (lines_in l.text)) × (l.number + length l.rest ≤ length l.text + 1))

abbrev pub decreases-loop-line : goal.decreases-loop-line
decreases-loop-line l = length l.rest
