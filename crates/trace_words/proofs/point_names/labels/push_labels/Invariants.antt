use Rattle.std.proofs.Common.{◌≡◌, ◌++◌, length}
use Rattle.trace_words.specs.PointNames.Labels.{labels_from, labels_of, words_in}
use Rattle.trace_words.specs.PointNames.Things.{devices_in, names_in}
use Rattle.trace_words.proofs.point_names.labels.push_labels.Given as goal

-- what stands there, with the labels of the words that are left, is all
abbrev pub invariant-loop-word : goal.invariant-loop-word
invariant-loop-word l = l.out.items ++ labels_from (names_in l.names) (devices_in l.devices) l.is_first l.expected l.before (words_in l.rest) ≡ l.fn.out.items ++ labels_of (names_in l.names) (devices_in l.devices) l.line

abbrev pub decreases-loop-word : goal.decreases-loop-word
decreases-loop-word l = length l.rest
