use Rattle.std.proofs.Common.{◌≡◌, refl, Some, Bool, not, ap, ◌∙◌, subst}
use Rattle.std.specs.List.{list_any}
use Rattle.std.specs.Result.{IfOk}
use Rattle.cip_types.specs.Cases.{first_case}
use Rattle.conn_state.specs.Answers.{answer_tests}
use Rattle.scanner_table.specs.Replies.{uses_id}
use Rattle.scanner_table.specs.Slots.{indexed_from}
use Rattle.scanner_slots.specs.Views.{view_slot}
use Rattle.scanner_transactions.specs.Transactions.{Progress, view_transaction, after_at, rejected_by, judged_by}
use Rattle.scanner_transactions.proofs.Faultless.{few, refused_by_why}
use Rattle.scanner_transactions.proofs.Remaining.{goes_on}
use Rattle.scanner_transactions.proofs.Steps.{judged_adds, none_found}
use Rattle.scanner_transactions.proofs.transaction.Transaction.judge.Goals as goal

pub is_id_used-used-requires : goal.is_id_used-used-requires
is_id_used-used-requires c = rw c.as_slice.ensures (few c.args.self.now.profile.now c.args.self.now.faultless)

pub returns-in_ok-refuse-in-Err : goal.returns-in_ok-refuse-in-Err
returns-in_ok-refuse-in-Err c =
    let indexed = view_slot c.in-Some.indexed in
    let opened = c.args.opened.now in
    let requested = c.args.opening.now.requested in
    let used : c.is_id_used-used.result ≡ list_any (uses_id indexed.number indexed.config.target opened.t_o_id) (indexed_from 0 c.args.self.now.profile.now.slots c.args.self.now.scanner.slots.items) = rw (← c.as_slice.ensures, ← c.deref.ensures.value) c.is_id_used-used.ensures in
    let amiss : first_case (answer_tests requested opened (not c.is_id_used-used.result)) ≡ Some c.in-Err.why = refused_by_why requested opened (not c.is_id_used-used.result) c.in-Err.why c.in-Err.ensures in
    let reported = subst (λ (b : Bool). first_case (answer_tests requested opened (not b)) ≡ Some c.in-Err.why) used amiss in
    let so_far : Progress = view_transaction c.args.self.now in
    let triad = requested.triad in
    record {
      effect = subst (λ (d : Progress). IfOk c.reject.result (λ x. view_transaction c.reject.new.self ≡ d)) (ap (after_at (rejected_by triad) c.args.number) c.in_ok-refuse-in-Err.ensures.effect ∙ judged_adds so_far c.args.number indexed c.args.opening.now opened c.in-Err.why (c.in-Some.ensures.found) reported) c.reject.ensures.effect;
      kept = goes_on c.args.self.now c.refuse.new.self c.reject.new.self c.in_ok-refuse-in-Err.ensures.kept c.reject.ensures.kept;
    }

pub returns-in_default : goal.returns-in_default
returns-in_default c = record { effect = none_found (judged_by c.args.opening.now c.args.opened.now) (view_transaction c.args.self.now) c.args.number c.in_default.ensures.found; kept = (refl, refl, refl) }
