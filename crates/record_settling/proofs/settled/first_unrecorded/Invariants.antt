use Rattle.std.proofs.Common.{◌≡◌, drop}
use Rattle.record_settling.specs.Settled.{all_recorded}
use Rattle.record_settling.proofs.settled.first_unrecorded.Given as goal

abbrev pub invariant-loop-place : goal.invariant-loop-place
invariant-loop-place l = all_recorded (drop l.place l.entries) ≡ all_recorded l.entries
