use Rattle.std.proofs.Common.{◌≡◌, length}
use Rattle.trace_words.specs.Reader.{unread_words}
use Rattle.trace_lines.specs.Shapes.{behind_kinds}
use Rattle.trace_faults.proofs.reasons.bad_word.Given as goal

-- the words that are left are judged by the kinds that are left, as all are by all
abbrev pub invariant-loop-rest : goal.invariant-loop-rest
invariant-loop-rest l = behind_kinds l.rest (unread_words l.words) ≡ behind_kinds l.fn.kinds (unread_words l.fn.words)

abbrev pub decreases-loop-rest : goal.decreases-loop-rest
decreases-loop-rest l = length l.rest
