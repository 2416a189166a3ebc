use Rattle.std.proofs.Common.{drop}
use Rattle.record_settling.specs.Summed.{AllHaveSums}
use Rattle.record_settling.proofs.summed.check_all_sums.Given as goal

abbrev pub invariant-loop-place : goal.invariant-loop-place
invariant-loop-place l = AllHaveSums (drop l.place l.records) l.rest → AllHaveSums l.records l.fn.sums
