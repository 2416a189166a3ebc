use Rattle.scanner_slots.specs.Bounding.{IsNoLater}
use Rattle.scanner_transactions.specs.Transactions.{view_transaction}
use Rattle.scanner_transactions.proofs.Narrowed.{Narrows}
use Rattle.scanner_transactions.proofs.transaction.Transaction.narrowed.Given as goal

abbrev pub invariant-loop-before : goal.invariant-loop-before
invariant-loop-before l = record {
  earlier : IsNoLater l.narrowed l.fn.bounds;
  narrows : Narrows l.narrowed (view_transaction l.self).table l.self.undo.slots.items l.before-index;
}
