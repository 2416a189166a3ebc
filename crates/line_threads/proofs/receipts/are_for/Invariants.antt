use Rattle.std.proofs.Common.{◌≡◌, ◌↔◌, drop}
use Rattle.line_threads.specs.Accounts.{events_reported}
use Rattle.line_threads.proofs.receipts.are_for.Given as goal

abbrev pub invariant-loop-receipt : goal.invariant-loop-receipt
invariant-loop-receipt l = (events_reported l.device (drop l.receipt-index l.receipts) ≡ l.left) ↔ (events_reported l.device l.receipts ≡ l.events)
