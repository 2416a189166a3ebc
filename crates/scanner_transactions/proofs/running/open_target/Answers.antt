use Rattle.std.proofs.Common.{◌≡◌, subst, IfOk}
use Rattle.scanner_table.specs.Effects.{Effect}
use Rattle.scanner_transactions.specs.Transactions.{view_transaction, followed}
use Rattle.scanner_transactions.proofs.Selected.{target_is}
use Rattle.scanner_transactions.proofs.running.open_target.Goals as goal

pub returns : goal.returns
returns c =
    let d = view_transaction c.args.transaction.now in
    record {
      effect = subst (λ (e : Effect). IfOk c.run.result (λ x. view_transaction c.run.new.transaction ≡ followed d e)) (target_is c.args.target d.table) c.run.ensures.effect;
      kept = c.run.ensures.kept;
    }
