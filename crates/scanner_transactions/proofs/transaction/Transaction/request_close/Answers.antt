use Rattle.std.proofs.Common.{◌≡◌, refl, subst}
use Rattle.scanner_table.specs.Opening.{later}
use Rattle.scanner_table.specs.declared.slot.SlotState.TheVariants.{Closing}
use Rattle.std.specs.Result.{IfOk}
use Rattle.scanner_slots.specs.Views.{view_slot}
use Rattle.scanner_transactions.specs.Transactions.{Progress, view_transaction, close_requested_within}
use Rattle.scanner_requests.specs.Lemmas.Waits.{open_timeout_fits}
use Rattle.scanner_transactions.proofs.Found.{found}
use Rattle.scanner_transactions.proofs.RequestSteps.{requests_close, lengths_at}
use Rattle.scanner_transactions.proofs.Steps.{none_found}
use Rattle.scanner_transactions.proofs.transaction.Transaction.request_close.Goals as goal

pub close_frame-requires : goal.close_frame-requires
close_frame-requires c = lengths_at c.args.self.now.profile.now c.args.number c.in-Some.indexed.config.now c.args.self.now.faultless (found c.args.number c.args.self.now.profile.now.slots c.args.self.now.scanner.slots.items (view_slot c.in-Some.indexed) (c.in-Some.ensures.found)).config

pub later-requires-clause-wait : goal.later-requires-clause-wait
later-requires-clause-wait c = open_timeout_fits c.args.self.now.profile.now c.args.self.now.faultless

pub returns-in_default : goal.returns-in_default
returns-in_default c = record { effect = none_found (close_requested_within c.args.link c.args.desired_up c.args.session) (view_transaction c.args.self.now) c.args.number c.in_default.ensures.found; kept = (refl, refl, refl) }

pub returns : goal.returns
returns c =
    let so_far = view_transaction c.args.self.now in
    let indexed = view_slot c.in-Some.indexed in
    let wait : c.later.result ≡ later so_far.table.clock so_far.table.profile.open_timeout = c.later.ensures in
    record {
      effect = subst (λ (d : Progress). IfOk c.send_request.result (λ x. view_transaction c.send_request.new.self ≡ d)) (requests_close so_far c.args.number indexed c.args.link c.args.desired_up c.args.session c.in_ok-frame.frame (record { state = Closing (record { request = so_far.table.next_request; link = c.args.link; deadline = c.later.result }); desired_up = c.args.desired_up; retry_at = indexed.slot.retry_at }) (c.in-Some.ensures.found) c.in_ok-frame.ensures (rw wait refl)) c.send_request.ensures.effect;
      kept = c.send_request.ensures.kept;
    }
