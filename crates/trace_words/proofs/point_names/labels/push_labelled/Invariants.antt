use Rattle.std.proofs.Common.{◌≡◌, ◌++◌, length}
use Rattle.trace_words.specs.PointNames.Labels.{labelled_lines, labelled_text, lines_in}
use Rattle.trace_words.specs.PointNames.Things.{devices_in, names_in}
use Rattle.trace_words.proofs.point_names.labels.push_labelled.Given as goal

-- what stands there, with the lines that are left, is all
abbrev pub invariant-loop-line : goal.invariant-loop-line
invariant-loop-line l = l.out.items ++ labelled_lines (names_in l.names) (devices_in l.devices) (lines_in l.rest) ≡ l.fn.out.items ++ labelled_text (names_in l.names) (devices_in l.devices) l.text

abbrev pub decreases-loop-line : goal.decreases-loop-line
decreases-loop-line l = length l.rest
