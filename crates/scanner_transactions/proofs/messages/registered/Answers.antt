use Rattle.std.proofs.Common.{◌≡◌, ◌==◌, true, arith}
use Rattle.std.proofs.lemmas.Bool.Decides.{nat_tests}
use Rattle.cip_encap.specs.Message.{view_message}
use Rattle.scanner_table.specs.declared.table.ScannerTable.{ScannerTable}
use Rattle.scanner_table.specs.Encapsulation.{registered}
use Rattle.scanner_transactions.specs.Transactions.{view_transaction}
use Rattle.scanner_transactions.proofs.Answering.{table_done}
use Rattle.scanner_transactions.proofs.messages.registered.Goals as goal

pub returns : goal.returns
returns c =
    let zero : (c.args.message.now.context == 0) ≡ true = grind (arith, nat_tests) in
    record {
      effect = rw zero (table_done (λ (t : ScannerTable). registered t c.args.stream (view_message c.args.message.now)) (view_transaction c.args.transaction.now).table (view_transaction c.args.transaction.now) (view_transaction c.register.new.transaction) c.requires c.in_ok-register.ensures.effect);
      kept = c.in_ok-register.ensures.kept;
    }
