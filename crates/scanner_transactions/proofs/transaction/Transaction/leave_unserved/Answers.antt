use Rattle.std.proofs.Common.{◌≡◌, refl, subst}
use Rattle.std.specs.Result.{IfOk}
use Rattle.scanner_table.specs.Encapsulation.{unserved}
use Rattle.scanner_slots.specs.Views.{view_slot}
use Rattle.scanner_transactions.specs.Transactions.{Progress, view_transaction}
use Rattle.scanner_transactions.proofs.SessionSteps.{refuses_unserved}
use Rattle.scanner_transactions.proofs.Steps.{none_found}
use Rattle.scanner_transactions.proofs.transaction.Transaction.leave_unserved.Goals as goal

pub returns-in_default : goal.returns-in_default
returns-in_default c = record { effect = none_found (unserved c.args.status) (view_transaction c.args.self.now) c.args.number c.in_default.ensures.found; kept = (refl, refl, refl) }

pub returns : goal.returns
returns c =
    let so_far : Progress = view_transaction c.args.self.now in
    record {
      effect = subst (λ (d : Progress). IfOk c.refuse.result (λ x. view_transaction c.refuse.new.self ≡ d)) (refuses_unserved so_far c.args.number c.args.status (view_slot c.in-Some.indexed) c.in-Opening.field-0 c.in-Some.ensures.found c.in-Opening.is) c.refuse.ensures.effect;
      kept = c.refuse.ensures.kept;
    }
