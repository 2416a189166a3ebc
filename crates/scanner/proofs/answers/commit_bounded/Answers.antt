use Rattle.std.proofs.Common.{sym, subst}
use Rattle.scanner_slots.specs.declared.bounds.Bounds.{Bounds}
use Rattle.scanner_slots.specs.Bounding.{IsHinted}
use Rattle.scanner_transactions.specs.Undoing.{state_before, table_with}
use Rattle.scanner.proofs.answers.commit_bounded.Goals as goal

pub returns-clause-hints : goal.returns-clause-hints
returns-clause-hints g c hinted =
    let last = c.args.transaction in
    c.bounds_are_kept_by_earlier_ones.ensures _ _ _ c.set_bounds.ensures (c.narrowed.ensures (subst (λ (b : Bounds). IsHinted b (table_with last.profile.now (state_before last))) (sym c.bounds.ensures) hinted))
