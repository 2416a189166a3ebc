use Rattle.std.proofs.Common.{◌≡◌, ◌∙◌, IfOk, subst}
use Rattle.scanner_table.specs.Closing.{target_lost}
use Rattle.scanner_table.specs.Effects.{and_then}
use Rattle.scanner_table.specs.Encapsulation.{registering_again}
use Rattle.scanner_table.specs.Explicit.{explicit_lost}
use Rattle.scanner_transactions.specs.Transactions.{Progress, view_transaction, followed}
use Rattle.scanner_transactions.proofs.Remaining.{goes_on, then_added}
use Rattle.scanner_transactions.proofs.sessions.renew_session.Goals as goal

pub returns : goal.returns
unfolding explicit_lost
returns c =
    let stream = c.args.stream in
    let start = view_transaction c.args.transaction.now in
    let lost : view_transaction c.lose_target.new.transaction ≡ followed start (and_then (registering_again start.table stream) (target_lost stream.peer)) =
    c.in_ok-lose_target.ensures.effect ∙ then_added start (view_transaction c.register_again.new.transaction) (λ t. registering_again t stream) (target_lost stream.peer) c.in_ok-register_again.ensures.effect in
    record {
      effect = subst (λ (p : Progress). IfOk c.end_explicit.result (λ x. view_transaction c.end_explicit.new.self ≡ p)) (then_added start (view_transaction c.lose_target.new.transaction) (λ t. and_then (registering_again t stream) (target_lost stream.peer)) (explicit_lost stream.number) lost) c.end_explicit.ensures.effect;
      kept = goes_on c.args.transaction.now c.lose_target.new.transaction c.end_explicit.new.self (goes_on c.args.transaction.now c.register_again.new.transaction c.lose_target.new.transaction c.in_ok-register_again.ensures.kept c.in_ok-lose_target.ensures.kept) c.end_explicit.ensures.kept;
    }
