use Rattle.std.proofs.Common.{◌≡◌, ◌∙◌, refl, subst, ap}
use Rattle.conn_state.specs.declared.names.Requested.{Requested}
use Rattle.scanner_table.specs.Opening.{later}
use Rattle.scanner_table.specs.Requests.{next_requested, sent_frame, numbered, opening, is_large, open_fields}
use Rattle.scanner_table.specs.declared.slot.SlotState.TheVariants.{Opening}
use Rattle.std.specs.Result.{IfOk}
use Rattle.scanner_slots.specs.Views.{view_slot}
use Rattle.scanner_transactions.specs.Transactions.{Progress, view_transaction, open_requested_within}
use Rattle.scanner_requests.specs.Lemmas.Waits.{open_timeout_fits}
use Rattle.scanner_transactions.proofs.Found.{found}
use Rattle.scanner_transactions.proofs.RequestSteps.{requests_open, id_follows, left_for, lengths_at, within}
use Rattle.scanner_transactions.proofs.Steps.{none_found}
use Rattle.scanner_transactions.proofs.transaction.Transaction.request_open.Goals as goal

pub open_frame-requires-clause-time : goal.open_frame-requires-clause-time
open_frame-requires-clause-time c = open_timeout_fits c.args.self.now.profile.now c.args.self.now.faultless

pub open_frame-requires-clause-lengths : goal.open_frame-requires-clause-lengths
open_frame-requires-clause-lengths c = lengths_at c.args.self.now.profile.now c.args.number c.in-Some.indexed.config.now c.args.self.now.faultless (found c.args.number c.args.self.now.profile.now.slots c.args.self.now.scanner.slots.items (view_slot c.in-Some.indexed) (c.in-Some.ensures.found)).config

pub later-requires-clause-wait : goal.later-requires-clause-wait
later-requires-clause-wait c = open_timeout_fits c.args.self.now.profile.now c.args.self.now.faultless

pub id_after-self-requires : goal.id_after-self-requires
id_after-self-requires c = id_follows c.in-Some.indexed.config.now.multicast c.args.self.now.scanner.next_id c.args.self.now.scanner.ids.items (left_for (view_transaction c.args.self.now).table c.args.number (view_slot c.in-Some.indexed) (c.in-Some.ensures.found) c.requires.left).1

pub send_request-requires : goal.send_request-requires
send_request-requires c = record { left = within c.args.self.now.scanner.next_request 281474976710656 (left_for (view_transaction c.args.self.now).table c.args.number (view_slot c.in-Some.indexed) (c.in-Some.ensures.found) c.requires.left).0 }

pub returns-in_default : goal.returns-in_default
returns-in_default c = record { effect = none_found (open_requested_within c.args.session) (view_transaction c.args.self.now) c.args.number c.in_default.ensures.found; kept = (refl, refl, refl) }

pub returns : goal.returns
returns c =
    let so_far = view_transaction c.args.self.now in
    let indexed = view_slot c.in-Some.indexed in
    let drawn : c.next_requested-requested.result ≡ next_requested so_far.table indexed.config = c.next_requested-requested.ensures in
    let wait : c.later.result ≡ later so_far.table.clock so_far.table.profile.open_timeout = c.later.ensures in
    let sent : c.in_ok-frame.frame ≡ sent_frame (numbered c.args.session so_far.table.next_request (opening (is_large indexed.config) (open_fields so_far.table.profile indexed.config (next_requested so_far.table indexed.config)))) = c.in_ok-frame.ensures ∙ ap (λ (r : Requested). sent_frame (numbered c.args.session so_far.table.next_request (opening (is_large indexed.config) (open_fields so_far.table.profile indexed.config r)))) drawn in
    record {
      effect = subst (λ (d : Progress). IfOk c.send_request.result (λ x. view_transaction c.send_request.new.self ≡ d)) (requests_open so_far c.args.number c.id_after-self.result c.serial_after-self.result indexed c.args.session c.in_ok-frame.frame (record { state = Opening (record { request = so_far.table.next_request; requested = c.next_requested-requested.result; deadline = c.later.result }); desired_up = indexed.slot.desired_up; retry_at = indexed.slot.retry_at }) (c.in-Some.ensures.found) c.id_after-self.ensures c.serial_after-self.ensures sent (rw (drawn, wait) refl)) c.send_request.ensures.effect;
      kept = c.send_request.ensures.kept;
    }
