use Rattle.std.proofs.Common.{refl, sym, subst}
use Rattle.scanner_table.specs.Whole.{IsWholeScanner}
use Rattle.scanner.proofs.engine.ScannerDevice.new.Goals as goal

pub invariant_of-result : goal.invariant_of-result
invariant_of-result g c = (subst IsWholeScanner (sym c.in_ok-slots.ensures) (c.fresh_tables_are_whole.ensures c.in-Scanner.profile (c.in_ok-check.ensures.ok.0 refl)), c.new.ensures _)
