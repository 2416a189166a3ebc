use Rattle.std.proofs.Common.{◌≡◌, ◌∙◌, IfOk, ap, subst}
use Rattle.scanner_table.specs.Closing.{target_lost}
use Rattle.scanner_table.specs.Explicit.{explicit_lost}
use Rattle.scanner_transactions.specs.Transactions.{Progress, view_transaction, followed, without_cut}
use Rattle.scanner_transactions.proofs.Remaining.{goes_on, then_added}
use Rattle.scanner_transactions.proofs.sessions.cut_stream.Goals as goal

pub returns : goal.returns
unfolding explicit_lost
returns c =
    let stream = c.args.stream in
    let d = without_cut stream.number (view_transaction c.args.transaction.now) in
    let lost : view_transaction c.lose_target.new.transaction ≡ followed d (target_lost stream.peer d.table) =
    c.in_ok-lose_target.ensures.effect ∙ ap (λ (p : Progress). followed p (target_lost stream.peer p.table)) c.in_ok-cut_stream.ensures.effect in
    record {
      effect = subst (λ (p : Progress). IfOk c.end_explicit.result (λ x. view_transaction c.end_explicit.new.self ≡ p)) (then_added d (view_transaction c.lose_target.new.transaction) (target_lost stream.peer) (explicit_lost stream.number) lost) c.end_explicit.ensures.effect;
      kept = goes_on c.args.transaction.now c.lose_target.new.transaction c.end_explicit.new.self (goes_on c.args.transaction.now c.cut_stream.new.self c.lose_target.new.transaction c.in_ok-cut_stream.ensures.kept c.in_ok-lose_target.ensures.kept) c.end_explicit.ensures.kept;
    }
