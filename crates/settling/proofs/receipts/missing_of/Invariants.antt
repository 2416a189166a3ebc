use Rattle.settling.specs.Receipts.{HasAllMarks}
use Rattle.settling.proofs.receipts.missing_of.Given as goal

abbrev pub invariant-loop-place : goal.invariant-loop-place
invariant-loop-place l = HasAllMarks l.marks l.place l.device
