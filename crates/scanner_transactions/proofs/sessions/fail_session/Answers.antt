use Rattle.std.proofs.Common.{◌∙◌}
use Rattle.scanner_table.specs.declared.table.Stage.TheVariants.{Unused}
use Rattle.scanner_transactions.specs.Transactions.{view_transaction, with_staged}
use Rattle.scanner_transactions.proofs.Steps.{adds_nothing}
use Rattle.scanner_transactions.proofs.sessions.fail_session.Goals as goal

pub returns : goal.returns
returns c = record {
  effect = c.in_ok-set_stage.ensures.effect ∙ adds_nothing (with_staged c.args.stream.number Unused (view_transaction c.args.transaction.now));
  kept = c.in_ok-set_stage.ensures.kept;
}
