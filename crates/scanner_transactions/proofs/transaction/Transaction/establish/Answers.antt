use Rattle.std.proofs.Common.{refl, List, ap}
use Rattle.scanner_slots.specs.Views.{view_slot}
use Rattle.scanner_transactions.specs.Transactions.{view_transaction, established_by}
use Rattle.scanner_transactions.proofs.Faultless.{mult_at}
use Rattle.scanner_transactions.proofs.Found.{found}
use Rattle.scanner_transactions.proofs.Steps.{none_found, occupied_adds}
use Rattle.scanner_table.specs.declared.slot.Slot.{Slot}
use Rattle.scanner_transactions.specs.Undoing.{State, state_before}
use Rattle.scanner_transactions.proofs.Undone.{connection_leads_back}
use Rattle.scanner_transactions.proofs.transaction.Transaction.establish.Goals as goal

pub new_connection-connection-requires-clause-mult : goal.new_connection-connection-requires-clause-mult
new_connection-connection-requires-clause-mult c =
    mult_at c.args.self.now.profile.now c.args.number c.in-Some.indexed.config.now c.args.self.now.faultless (found c.args.number c.args.self.now.profile.now.slots c.args.self.now.scanner.slots.items (view_slot c.in-Some.indexed) (c.in-Some.ensures.found)).config

pub returns-in_default : goal.returns-in_default
returns-in_default c = record { effect = none_found (established_by c.args.opening.now c.args.opened.now) (view_transaction c.args.self.now) c.args.number c.in_default.ensures.found; kept = (refl, refl, refl) }

pub occupy-requires : goal.occupy-requires
occupy-requires c = (found c.args.number c.args.self.now.profile.now.slots c.args.self.now.scanner.slots.items (view_slot c.in-Some.indexed) c.in-Some.ensures.found).slot_in

pub returns : goal.returns
returns c =
    let known = found c.args.number c.args.self.now.profile.now.slots c.args.self.now.scanner.slots.items (view_slot c.in-Some.indexed) c.in-Some.ensures.found in
    record {
      effect = occupied_adds (view_transaction c.args.self.now) c.args.number c.args.opening.now c.args.opened.now c.args.link c.new_connection-connection.result c.in_ok-image.image (view_slot c.in-Some.indexed) c.report.new.notices.items c.occupy.new.slots.items c.in-Some.ensures.found c.requires.named c.new_connection-connection.ensures c.in_ok-image.ensures c.in_ok-report.ensures c.in_ok-occupy.ensures.slot;
      kept = (refl, refl, ap (λ (l : List Slot). let s : State = record (state_before c.args.self.now) { slots = l } in s) (connection_leads_back c.args.self.now.undo.slots.items c.occupy.new.kept.items c.args.self.now.scanner.slots.items c.occupy.new.slots.items c.args.number (view_slot c.in-Some.indexed).slot _ c.in_ok-image.image known.slot_in known.slot c.in_ok-occupy.ensures.before c.in_ok-occupy.ensures.slot));
    }
