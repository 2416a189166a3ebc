use Rattle.line_threads.specs.Accounts.{AddsArrivals}
use Rattle.line_threads.proofs.worker.take_arrivals.Given as goal

abbrev pub invariant-loop : goal.invariant-loop
invariant-loop g l = AddsArrivals (g.L.Locked.device l.device) l.initial.receipts.items l.receipts.items
