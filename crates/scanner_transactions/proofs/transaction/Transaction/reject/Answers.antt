use Rattle.std.proofs.Common.{◌≡◌, ◌∙◌, true, List, Some, refl, ap, rules}
use Rattle.cip_events.specs.declared.event.Frame.{Frame}
use Rattle.scanner_table.specs.Effects.{counted}
use Rattle.scanner_table.specs.Opening.{has_request}
use Rattle.scanner_table.specs.Sessions.{session_with}
use Rattle.scanner_slots.specs.Views.{view_slot}
use Rattle.scanner_transactions.specs.Transactions.{Progress, view_transaction, rejected_by}
use Rattle.scanner_transactions.proofs.Found.{found}
use Rattle.scanner_transactions.proofs.RequestSteps.{lengths_at, rejects}
use Rattle.scanner_transactions.proofs.Steps.{none_found}
use Rattle.scanner_transactions.proofs.transaction.Transaction.reject.Goals as goal

pub close_frame-requires : goal.close_frame-requires
close_frame-requires c = lengths_at c.args.self.now.profile.now c.args.number c.in-Some.indexed.config.now c.args.self.now.faultless (found c.args.number c.args.self.now.profile.now.slots c.args.self.now.scanner.slots.items (view_slot c.in-Some.indexed) (c.in-Some.ensures.found)).config

pub returns-in_default : goal.returns-in_default
returns-in_default c = record { effect = none_found (rejected_by c.args.triad) (view_transaction c.args.self.now) c.args.number c.in_default.ensures.found; kept = (refl, refl, refl) }

pub returns : goal.returns
returns c =
    let so_far : Progress = view_transaction c.args.self.now in
    let indexed = view_slot c.in-Some.indexed in
    let within : session_with so_far.table indexed.config.target ≡ Some c.in-Some-session_with.session = search rules in
    let left : has_request so_far.table ≡ true = search rules in
    record {
      effect = ap (λ (fs : List Frame). let d : Progress = record so_far { frames = fs; table = counted so_far.table } in d) c.in_ok-push.ensures.items
          ∙ rejects so_far c.args.number indexed c.args.triad c.in-Some-session_with.session c.in_ok-frame.frame (c.in-Some.ensures.found) c.if-not-self.false within left c.in_ok-frame.ensures;
      kept = (refl, refl, refl);
    }
