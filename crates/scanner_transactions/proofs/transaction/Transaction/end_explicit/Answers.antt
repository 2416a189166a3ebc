use Rattle.std.proofs.Common.{rules, ◌≡◌, false, refl, sym, ap, ◌∙◌}
use Rattle.std.specs.List.{list_any}
use Rattle.explicit_requests.specs.Endings.{ends, why_of}
use Rattle.scanner_transactions.specs.Transactions.{followed, view_transaction}
use Rattle.scanner_transactions.proofs.Steps.{adds_nothing}
use Rattle.scanner_transactions.proofs.transaction.Transaction.end_explicit.Goals as goal

pub returns-then-not-ends_any : goal.returns-then-not-ends_any
returns-then-not-ends_any c =
    let now = view_transaction c.args.self.now in
    let none : list_any (ends c.args.end) now.table.explicit ≡ false = search rules in
    record {
      effect = adds_nothing now ∙ ap (followed now) (sym (c.no_end_changes_nothing.ensures (ends c.args.end) (why_of c.args.end) now.table none));
      kept = (refl, refl, refl);
    }
