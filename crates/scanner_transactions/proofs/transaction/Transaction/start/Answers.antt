use Rattle.std.proofs.Common.{◌≡◌, refl, subst, List, ap, ◌∙◌}
use Rattle.std.specs.Result.{IfOk}
use Rattle.scanner_slots.specs.Views.{view_slot}
use Rattle.scanner_transactions.specs.Transactions.{Progress, view_transaction, freshly_started}
use Rattle.scanner_transactions.proofs.Found.{found}
use Rattle.scanner_transactions.proofs.RequestSteps.{starts}
use Rattle.scanner_transactions.proofs.Steps.{none_found}
use Rattle.scanner_table.specs.declared.slot.Slot.{Slot}
use Rattle.scanner_transactions.specs.Undoing.{State, state_before}
use Rattle.scanner_transactions.proofs.Undone.{change_leads_back}
use Rattle.scanner_transactions.proofs.transaction.Transaction.start.Goals as goal

pub returns-in_default : goal.returns-in_default
returns-in_default c = record { effect = none_found freshly_started (view_transaction c.args.self.now) c.args.number c.in_default.ensures.found; kept = (refl, refl, refl) }

pub change_slot-requires : goal.change_slot-requires
change_slot-requires c = (found c.args.number c.args.self.now.profile.now.slots c.args.self.now.scanner.slots.items (view_slot c.in-Some.indexed) c.in-Some.ensures.found).slot_in

pub returns : goal.returns
returns c =
    let known = found c.args.number c.args.self.now.profile.now.slots c.args.self.now.scanner.slots.items (view_slot c.in-Some.indexed) c.in-Some.ensures.found in
    record {
      effect = subst (λ (d : Progress). IfOk c.open.result (λ x. view_transaction c.open.new.self ≡ d)) (starts (view_transaction c.args.self.now) c.args.number (view_slot c.in-Some.indexed) _ c.change_slot.new.slots.items c.in-Some.ensures.found refl c.in_ok-change_slot.ensures.slot) c.open.ensures.effect;
      kept = (c.open.ensures.kept.0, c.open.ensures.kept.1, c.open.ensures.kept.2 ∙ ap (λ (l : List Slot). let s : State = record (state_before c.args.self.now) { slots = l } in s) (change_leads_back c.args.self.now.undo.slots.items c.change_slot.new.kept.items c.args.self.now.scanner.slots.items c.change_slot.new.slots.items c.args.number (view_slot c.in-Some.indexed).slot _ known.slot_in known.slot (c.in_ok-change_slot.ensures.before _ known.slot) c.in_ok-change_slot.ensures.slot));
    }
