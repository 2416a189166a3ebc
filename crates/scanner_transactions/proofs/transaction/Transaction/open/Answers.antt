use Rattle.std.proofs.Common.{◌≡◌, refl, subst}
use Rattle.std.specs.Result.{IfOk}
use Rattle.scanner_table.specs.Opening.{opened}
use Rattle.scanner_table.specs.declared.slot.SlotState.TheVariants.{Idle, Opening, Established, TimedOut, Closing}
use Rattle.scanner_slots.specs.Views.{view_slot}
use Rattle.scanner_transactions.specs.Transactions.{Progress, view_transaction}
use Rattle.scanner_transactions.proofs.RequestSteps.{clears, opens_there, untidy_opens}
use Rattle.scanner_transactions.proofs.Steps.{none_found}
use Rattle.scanner_transactions.proofs.transaction.Transaction.open.Goals as goal

pub returns-in_default : goal.returns-in_default
returns-in_default c = record { effect = none_found opened (view_transaction c.args.self.now) c.args.number c.in_default.ensures.found; kept = (refl, refl, refl) }

pub returns-in-TimedOut : goal.returns-in-TimedOut
returns-in-TimedOut c =
    let so_far : Progress = view_transaction c.args.self.now in
    record {
      effect = subst (λ (d : Progress). IfOk c.clear.result (λ x. view_transaction c.clear.new.self ≡ d)) (clears so_far c.args.number (view_slot c.in-Some.indexed) c.in-TimedOut.link (c.in-Some.ensures.found) c.in-TimedOut.is c.if-tidy.true) c.clear.ensures.effect;
      kept = c.clear.ensures.kept;
    }

pub returns-in-TimedOut-2 : goal.returns-in-TimedOut-2
returns-in-TimedOut-2 c =
    let so_far : Progress = view_transaction c.args.self.now in
    let indexed = view_slot c.in-Some.indexed in
    record {
      effect = subst (λ (d : Progress). IfOk c.open_there.result (λ x. view_transaction c.open_there.new.self ≡ d)) (opens_there so_far c.args.number indexed (TimedOut c.in-TimedOut-2.field-0) (c.in-Some.ensures.found) c.in-TimedOut-2.is (untidy_opens so_far.table indexed c.in-TimedOut-2.field-0 c.if-tidy.false)) c.open_there.ensures.effect;
      kept = c.open_there.ensures.kept;
    }

pub returns-in-Idle : goal.returns-in-Idle
returns-in-Idle c =
    let so_far : Progress = view_transaction c.args.self.now in
    record {
      effect = subst (λ (d : Progress). IfOk c.open_there-in-Idle.result (λ x. view_transaction c.open_there-in-Idle.new.self ≡ d)) (opens_there so_far c.args.number (view_slot c.in-Some.indexed) Idle (c.in-Some.ensures.found) c.in-Idle.is refl) c.open_there-in-Idle.ensures.effect;
      kept = c.open_there-in-Idle.ensures.kept;
    }

pub returns-in-Opening : goal.returns-in-Opening
returns-in-Opening c =
    let so_far : Progress = view_transaction c.args.self.now in
    record {
      effect = subst (λ (d : Progress). IfOk c.open_there-in-Opening.result (λ x. view_transaction c.open_there-in-Opening.new.self ≡ d)) (opens_there so_far c.args.number (view_slot c.in-Some.indexed) (Opening c.in-Opening.field-0) (c.in-Some.ensures.found) c.in-Opening.is refl) c.open_there-in-Opening.ensures.effect;
      kept = c.open_there-in-Opening.ensures.kept;
    }

pub returns-in-Established : goal.returns-in-Established
returns-in-Established c =
    let so_far : Progress = view_transaction c.args.self.now in
    record {
      effect = subst (λ (d : Progress). IfOk c.open_there-in-Established.result (λ x. view_transaction c.open_there-in-Established.new.self ≡ d)) (opens_there so_far c.args.number (view_slot c.in-Some.indexed) (Established c.in-Established.field-0) (c.in-Some.ensures.found) c.in-Established.is refl) c.open_there-in-Established.ensures.effect;
      kept = c.open_there-in-Established.ensures.kept;
    }

pub returns-in-Closing : goal.returns-in-Closing
returns-in-Closing c =
    let so_far : Progress = view_transaction c.args.self.now in
    record {
      effect = subst (λ (d : Progress). IfOk c.open_there-in-Closing.result (λ x. view_transaction c.open_there-in-Closing.new.self ≡ d)) (opens_there so_far c.args.number (view_slot c.in-Some.indexed) (Closing c.in-Closing.field-0) (c.in-Some.ensures.found) c.in-Closing.is refl) c.open_there-in-Closing.ensures.effect;
      kept = c.open_there-in-Closing.ensures.kept;
    }
