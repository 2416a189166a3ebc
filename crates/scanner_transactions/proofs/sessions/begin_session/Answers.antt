use Rattle.std.proofs.Common.{◌≡◌, IfOk, subst}
use Rattle.scanner_table.specs.Opening.{target_opened}
use Rattle.scanner_transactions.specs.Transactions.{Progress, view_transaction, followed}
use Rattle.scanner_transactions.proofs.Remaining.{goes_on}
use Rattle.scanner_transactions.proofs.sessions.begin_session.Goals as goal

pub returns : goal.returns
returns c =
    record {
      effect = subst (λ (d : Progress). IfOk c.open_target.result (λ x. view_transaction c.open_target.new.transaction ≡ followed d (target_opened c.args.stream.peer d.table))) (c.in_ok-set_stage.ensures.effect) c.open_target.ensures.effect;
      kept = goes_on c.args.transaction.now c.set_stage.new.self c.open_target.new.transaction c.in_ok-set_stage.ensures.kept c.open_target.ensures.kept;
    }
