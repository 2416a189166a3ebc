use Rattle.std.proofs.Common.{refl}
use Rattle.scanner_transactions.specs.Transactions.{view_transaction, cleared_by}
use Rattle.scanner_transactions.proofs.Steps.{none_found}
use Rattle.scanner_transactions.proofs.transaction.Transaction.clear.Goals as goal

pub returns-in_default : goal.returns-in_default
returns-in_default c = record { effect = none_found (cleared_by c.args.link) (view_transaction c.args.self.now) c.args.number c.in_default.ensures.found; kept = (refl, refl, refl) }
