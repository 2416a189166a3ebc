use Rattle.std.proofs.Common.{drop}
use Rattle.record_settling.specs.Settled.{AllRecorded}
use Rattle.record_settling.proofs.settled.check_records.Given as goal

abbrev pub invariant-loop-place : goal.invariant-loop-place
invariant-loop-place g l = AllRecorded (drop l.place l.records) → AllRecorded l.records
