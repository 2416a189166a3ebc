use Rattle.std.proofs.Common.{◌≡◌, ◌∙◌, refl, ap, subst}
use Rattle.std.specs.Result.{IfOk}
use Rattle.scanner_table.specs.Closing.{closed}
use Rattle.scanner_table.specs.Opening.{opened}
use Rattle.scanner_table.specs.declared.slot.SlotState.TheVariants.{Idle}
use Rattle.scanner_slots.specs.Views.{view_slot}
use Rattle.scanner_transactions.specs.declared.changes.SlotChange.{SlotChange}
use Rattle.scanner_transactions.specs.Transactions.{Progress, view_transaction, after_at}
use Rattle.scanner_transactions.proofs.Remaining.{goes_on}
use Rattle.scanner_transactions.proofs.RequestSteps.{reopens}
use Rattle.scanner_transactions.proofs.Steps.{none_found}
use Rattle.scanner_transactions.proofs.transaction.Transaction.end_close.Goals as goal

pub returns-in_default : goal.returns-in_default
returns-in_default c = record { effect = none_found closed (view_transaction c.args.self.now) c.args.number c.in_default.ensures.found; kept = (refl, refl, refl) }

pub returns-then-desired_up : goal.returns-then-desired_up
returns-then-desired_up c =
    let so_far : Progress = view_transaction c.args.self.now in
    let indexed = view_slot c.in-Some.indexed in
    let idle : SlotChange = record { state = Idle; desired_up = indexed.slot.desired_up; retry_at = indexed.slot.retry_at } in
    record {
      effect = subst (λ (d : Progress). IfOk c.open.result (λ x. view_transaction c.open.new.self ≡ d)) (ap (after_at opened c.args.number) c.in_ok-change.ensures.effect ∙ reopens so_far c.args.number indexed idle (c.in-Some.ensures.found) refl c.if-desired_up.true) c.open.ensures.effect;
      kept = goes_on c.args.self.now c.change.new.self c.open.new.self c.in_ok-change.ensures.kept c.open.ensures.kept;
    }
