use Rattle.std.proofs.Common.{◌-◌, ◌+◌, ◌≤◌, ◌++◌, length}
use Rattle.cip_encap.proofs.StreamLaws.{IsPlace}
use Rattle.cip_encap.proofs.splitter.is_too_long.Given as goal

abbrev pub invariant-loop-at : goal.invariant-loop-at
invariant-loop-at l = (l.at ≤ length l.kept + length l.piece) × IsPlace (l.kept ++ l.piece) l.at

abbrev pub decreases-loop-at : goal.decreases-loop-at
decreases-loop-at l = length l.kept + length l.piece - l.at
