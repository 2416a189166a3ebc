use Rattle.std.proofs.Common.{◌≡◌, length, eqb}
use Rattle.std.specs.List.{slice_split}
use denote.Text.{Utf8}
use denote.Shadow.{shadow}
use Rattle.trace_words.specs.Words.{all_nodes}
use Rattle.trace_words.proofs.NodeWords.{behind}
use Rattle.trace_words.proofs.words.read_nodes.Given as goal

abbrev pub invariant-loop-node : goal.invariant-loop-node
invariant-loop-node l = shadow (Utf8 l.rest) × (all_nodes (slice_split (λ byte. eqb byte 44) l.fn.word) ≡ behind l.nodes.items (all_nodes (slice_split (λ byte. eqb byte 44) l.rest)))

abbrev pub decreases-loop-node : goal.decreases-loop-node
decreases-loop-node l = length l.rest
