use Rattle.std.proofs.Common.{drop}
use Rattle.record_settling.specs.Summed.{HaveSums}
use Rattle.record_settling.proofs.summed.check_sums.Given as goal

abbrev pub invariant-loop-placed : goal.invariant-loop-placed
invariant-loop-placed l = HaveSums l.entries (drop l.placed-index l.sums) → HaveSums l.entries l.sums
