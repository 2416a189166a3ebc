use Rattle.std.proofs.Common.{drop}
use Rattle.scanner_table.specs.Ticks.{all_expired, expired, expired_slots}
use Rattle.scanner_transactions.specs.Transactions.{view_transaction, followed}
use Rattle.scanner_transactions.specs.Undoing.{GoesOn}
use Rattle.scanner_transactions.proofs.SlotNumbers.{Remains}
use Rattle.scanner_transactions.proofs.expiries.expire_all.Given as goal

abbrev pub invariant-loop-number : goal.invariant-loop-number
invariant-loop-number l = record {
  remains : Remains expired (followed (view_transaction l.fn.transaction) (all_expired (view_transaction l.fn.transaction).table)) (view_transaction l.transaction) (drop l.number-index (expired_slots (view_transaction l.fn.transaction).table));
  kept : GoesOn l.fn.transaction l.transaction;
}
