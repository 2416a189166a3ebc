use Rattle.std.proofs.Common.{◌≡◌, length}
use Rattle.trace_words.specs.PointNames.Texts.{has_c1}
use Rattle.trace_words.proofs.point_names.text.has_c1.Given as goal

abbrev pub decreases-loop-rest : goal.decreases-loop-rest
decreases-loop-rest l = length l.rest

-- what was passed has none
abbrev pub invariant-loop-rest : goal.invariant-loop-rest
invariant-loop-rest l = has_c1 l.rest ≡ has_c1 l.bytes
