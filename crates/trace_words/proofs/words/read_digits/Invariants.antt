use Rattle.std.proofs.Common.{◌≡◌, length}
use Rattle.trace_words.proofs.HexWords.{read_pairs, behind}
use Rattle.trace_words.proofs.words.read_digits.Given as goal

abbrev pub invariant-loop-rest : goal.invariant-loop-rest
invariant-loop-rest l = read_pairs l.fn.word ≡ behind l.bytes.items (read_pairs l.rest)

abbrev pub decreases-loop-rest : goal.decreases-loop-rest
decreases-loop-rest l = length l.rest
