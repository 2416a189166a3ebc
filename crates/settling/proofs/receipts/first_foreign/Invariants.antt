use Rattle.std.proofs.Common.{take}
use Rattle.settling.proofs.Receiving.{GoodSoFar}
use Rattle.settling.proofs.receipts.first_foreign.Given as goal

abbrev pub invariant-loop-receipt : goal.invariant-loop-receipt
invariant-loop-receipt l = GoodSoFar l.histories (take l.receipt-index l.receipts) l.marks
