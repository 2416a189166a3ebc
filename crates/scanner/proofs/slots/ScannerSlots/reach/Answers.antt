use Rattle.std.proofs.Common.{sym, subst}
use Rattle.scanner_slots.specs.declared.bounds.Bounds.{Bounds}
use Rattle.scanner_slots.specs.Bounding.{IsHinted}
use Rattle.scanner.specs.Tables.{table_in}
use Rattle.scanner.proofs.slots.ScannerSlots.reach.Goals as goal

pub advance_within-outcome-requires-clause-hints : goal.advance_within-outcome-requires-clause-hints
advance_within-outcome-requires-clause-hints g c = subst (λ (b : Bounds). IsHinted b (table_in c.args.self.now)) (sym c.bounds.ensures) c.requires.hints
