use Rattle.std.proofs.Common.{◌≡◌, ◌∙◌, IfOk, ap, subst}
use Rattle.scanner_table.specs.declared.table.Stage.TheVariants.{Waiting}
use Rattle.scanner_transactions.specs.Transactions.{Progress, view_transaction, with_staged}
use Rattle.scanner_transactions.proofs.Remaining.{goes_on}
use Rattle.scanner_transactions.proofs.SessionSteps.{registers_again}
use Rattle.scanner_transactions.proofs.sessions.register_again.Goals as goal

pub returns : goal.returns
returns c =
    let stream = c.args.stream in
    let start = view_transaction c.args.transaction.now in
    record {
      effect = subst (λ (p : Progress). IfOk c.set_stage.result (λ x. view_transaction c.set_stage.new.self ≡ p)) (ap (with_staged stream.number Waiting) c.in_ok-send_frame.ensures.effect ∙ registers_again start stream c.in_ok-frame.frame c.in_ok-frame.ensures) c.set_stage.ensures.effect;
      kept = goes_on c.args.transaction.now c.send_frame.new.self c.set_stage.new.self c.in_ok-send_frame.ensures.kept c.set_stage.ensures.kept;
    }
