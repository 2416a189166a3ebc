use Rattle.std.proofs.Common.{refl, List, ap}
use Rattle.scanner_slots.specs.Views.{view_slot}
use Rattle.scanner_transactions.specs.Transactions.{view_transaction, slot_changed}
use Rattle.scanner_transactions.proofs.Found.{found}
use Rattle.scanner_transactions.proofs.Steps.{none_found, slot_changed_adds}
use Rattle.scanner_table.specs.declared.slot.Slot.{Slot}
use Rattle.scanner_transactions.specs.Undoing.{State, state_before}
use Rattle.scanner_transactions.proofs.Undone.{change_leads_back}
use Rattle.scanner_transactions.proofs.transaction.Transaction.change.Goals as goal

pub returns-in_default : goal.returns-in_default
returns-in_default c = record { effect = none_found (slot_changed c.args.slot_change c.args.reported) (view_transaction c.args.self.now) c.args.number c.in_default.ensures.found; kept = (refl, refl, refl) }

pub change_slot-requires : goal.change_slot-requires
change_slot-requires c = (found c.args.number c.args.self.now.profile.now.slots c.args.self.now.scanner.slots.items (view_slot c.in-Some.indexed) c.in-Some.ensures.found).slot_in

pub returns : goal.returns
returns c =
    let known = found c.args.number c.args.self.now.profile.now.slots c.args.self.now.scanner.slots.items (view_slot c.in-Some.indexed) c.in-Some.ensures.found in
    record {
      effect = slot_changed_adds (view_transaction c.args.self.now) c.args.number c.args.slot_change c.args.reported (view_slot c.in-Some.indexed) c.report.new.notices.items c.change_slot.new.slots.items c.in-Some.ensures.found c.in_ok-report.ensures c.in_ok-change_slot.ensures.slot;
      kept = (refl, refl, ap (λ (l : List Slot). let s : State = record (state_before c.args.self.now) { slots = l } in s) (change_leads_back c.args.self.now.undo.slots.items c.change_slot.new.kept.items c.args.self.now.scanner.slots.items c.change_slot.new.slots.items c.args.number (view_slot c.in-Some.indexed).slot c.args.slot_change known.slot_in known.slot (c.in_ok-change_slot.ensures.before _ known.slot) c.in_ok-change_slot.ensures.slot));
    }
