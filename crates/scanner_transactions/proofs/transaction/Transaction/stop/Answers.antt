use Rattle.std.proofs.Common.{◌≡◌, refl, subst}
use Rattle.std.specs.Result.{IfOk}
use Rattle.conn_state.specs.declared.names.Link.{Link}
use Rattle.scanner_table.specs.Closing.{requested_link, slot_resigned}
use Rattle.scanner_table.specs.declared.slot.SlotState.TheVariants.{Idle, Opening, Established, TimedOut, Closing}
use Rattle.scanner_slots.specs.Views.{view_slot}
use Rattle.scanner_transactions.specs.Transactions.{Progress, view_transaction, after_at, closed_by, dropped_by}
use Rattle.scanner_transactions.proofs.RequestSteps.{adds, adds_none, closing_stops, closing_stays, idle_stops, idle_stays}
use Rattle.scanner_transactions.proofs.transaction.Transaction.stop.Goals as goal

pub returns-in-Idle-clause-effect : goal.returns-in-Idle-clause-effect
returns-in-Idle-clause-effect c =
    let so_far : Progress = view_transaction c.args.self.now in
    let is = c.in-Some.ensures.found in
    adds so_far (view_transaction c.resign.new.self) c.args.number (view_slot c.in-Some.indexed) Idle slot_resigned c.resign.result c.faulted.result is c.in-Idle.is (idle_stops so_far.table (view_slot c.in-Some.indexed) c.if-desired_up.true) c.faulted.ensures c.resign.ensures.effect

pub returns-in-Opening-clause-effect : goal.returns-in-Opening-clause-effect
returns-in-Opening-clause-effect c =
    let so_far : Progress = view_transaction c.args.self.now in
    let is = c.in-Some.ensures.found in
    let made = subst (λ (l : Link). IfOk c.drop_link.result (λ x. view_transaction c.drop_link.new.self ≡ after_at (dropped_by l) c.args.number so_far)) c.requested_link.ensures c.drop_link.ensures.effect in
    adds so_far (view_transaction c.drop_link.new.self) c.args.number (view_slot c.in-Some.indexed) (Opening c.in-Opening.opening) (dropped_by (requested_link c.in-Opening.opening.requested)) c.drop_link.result c.faulted-in-Opening.result is c.in-Opening.is refl c.faulted-in-Opening.ensures made

pub returns-in-TimedOut-clause-effect : goal.returns-in-TimedOut-clause-effect
returns-in-TimedOut-clause-effect c =
    let so_far : Progress = view_transaction c.args.self.now in
    let is = c.in-Some.ensures.found in
    adds so_far (view_transaction c.drop_link-in-TimedOut.new.self) c.args.number (view_slot c.in-Some.indexed) (TimedOut c.in-TimedOut.link) (dropped_by c.in-TimedOut.link) c.drop_link-in-TimedOut.result c.faulted-in-TimedOut.result is c.in-TimedOut.is refl c.faulted-in-TimedOut.ensures c.drop_link-in-TimedOut.ensures.effect

pub returns-in-Established-clause-effect : goal.returns-in-Established-clause-effect
returns-in-Established-clause-effect c =
    let so_far : Progress = view_transaction c.args.self.now in
    let is = c.in-Some.ensures.found in
    adds so_far (view_transaction c.close.new.self) c.args.number (view_slot c.in-Some.indexed) (Established c.in-Established.connection) (closed_by c.in-Established.connection.link) c.close.result c.faulted-in-Established.result is c.in-Established.is refl c.faulted-in-Established.ensures c.close.ensures.effect

pub returns-in-Closing-clause-effect : goal.returns-in-Closing-clause-effect
returns-in-Closing-clause-effect c =
    let so_far : Progress = view_transaction c.args.self.now in
    let is = c.in-Some.ensures.found in
    adds so_far (view_transaction c.resign-in-Closing.new.self) c.args.number (view_slot c.in-Some.indexed) (Closing c.in-Closing.field-0) slot_resigned c.resign-in-Closing.result c.faulted-in-Closing.result is c.in-Closing.is (closing_stops so_far.table (view_slot c.in-Some.indexed) c.in-Closing.field-0 c.if-desired_up-2.true) c.faulted-in-Closing.ensures c.resign-in-Closing.ensures.effect

pub returns-in-Idle-2-clause-effect : goal.returns-in-Idle-2-clause-effect
returns-in-Idle-2-clause-effect c =
    let so_far : Progress = view_transaction c.args.self.now in
    let is = c.in-Some.ensures.found in
    adds_none so_far _ c.args.number (view_slot c.in-Some.indexed) Idle is c.in-Idle.is (idle_stays so_far.table (view_slot c.in-Some.indexed) c.if-desired_up.false)

pub returns-in-Closing-2-clause-effect : goal.returns-in-Closing-2-clause-effect
returns-in-Closing-2-clause-effect c =
    let so_far : Progress = view_transaction c.args.self.now in
    let is = c.in-Some.ensures.found in
    adds_none so_far _ c.args.number (view_slot c.in-Some.indexed) (Closing c.in-Closing.field-0) is c.in-Closing.is (closing_stays so_far.table (view_slot c.in-Some.indexed) c.in-Closing.field-0 c.if-desired_up-2.false)
