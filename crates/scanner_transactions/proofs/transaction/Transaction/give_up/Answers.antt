use Rattle.std.proofs.Common.{refl}
use Rattle.scanner_table.specs.Closing.{given_up}
use Rattle.scanner_transactions.specs.Transactions.{view_transaction}
use Rattle.scanner_transactions.proofs.Steps.{none_found}
use Rattle.scanner_requests.specs.Lemmas.Waits.{retry_fits}
use Rattle.scanner_transactions.proofs.transaction.Transaction.give_up.Goals as goal

pub later-again-requires-clause-wait : goal.later-again-requires-clause-wait
later-again-requires-clause-wait c = retry_fits c.args.self.now.profile.now c.args.self.now.faultless

pub returns-in_default : goal.returns-in_default
returns-in_default c = record { effect = none_found given_up (view_transaction c.args.self.now) c.args.number c.in_default.ensures.found; kept = (refl, refl, refl) }
