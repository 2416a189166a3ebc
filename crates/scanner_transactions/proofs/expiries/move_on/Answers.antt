use Rattle.std.proofs.Common.{◌≡◌, IfOk, subst}
use Rattle.scanner_table.specs.Explicit.{explicit_timed_out}
use Rattle.scanner_table.specs.Ticks.{advanced}
use Rattle.scanner_transactions.specs.Transactions.{Progress, view_transaction}
use Rattle.scanner_transactions.proofs.Remaining.{goes_on, then_added}
use Rattle.scanner_transactions.proofs.expiries.move_on.Goals as goal

pub returns : goal.returns
unfolding explicit_timed_out
returns c =
    record {
      effect = subst (λ (p : Progress). IfOk c.end_explicit.result (λ x. view_transaction c.end_explicit.new.self ≡ p)) (then_added (view_transaction c.args.transaction.now) (view_transaction c.advance.new.transaction) advanced explicit_timed_out c.in_ok-advance.ensures.effect) c.end_explicit.ensures.effect;
      kept = goes_on c.args.transaction.now c.advance.new.transaction c.end_explicit.new.self c.in_ok-advance.ensures.kept c.end_explicit.ensures.kept;
    }
