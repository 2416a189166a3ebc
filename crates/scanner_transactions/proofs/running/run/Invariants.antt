use Rattle.std.proofs.Common.{◌≡◌}
use Rattle.scanner_slots.specs.Views.{passes}
use Rattle.scanner_transactions.specs.Transactions.{view_transaction, followed}
use Rattle.scanner_transactions.specs.Undoing.{GoesOn}
use Rattle.scanner_transactions.specs.Runs.{effect_of, run}
use Rattle.scanner_transactions.proofs.Remaining.{left}
use Rattle.scanner_transactions.proofs.running.run.Given as goal

abbrev pub invariant-loop-number : goal.invariant-loop-number
invariant-loop-number l = record {
  adds : followed (view_transaction l.fn.transaction) (run l.action l.test (view_transaction l.fn.transaction).table) ≡ followed (view_transaction l.transaction) (left (effect_of l.action) (passes l.test) l.number (view_transaction l.transaction).table);
  kept : GoesOn l.fn.transaction l.transaction;
}
