use Rattle.scanner.specs.Tables.{table_in}
use Rattle.scanner.proofs.Kept.{written_kept}
use Rattle.scanner.proofs.engine.ScannerDevice.write_point.Goals as goal

pub invariant_of-self : goal.invariant_of-self
invariant_of-self g c =
    (written_kept c.steps_keep_tables_whole.ensures (table_in c.self.inside.slots) c.args.point c.args.bytes.now c.write.result (table_in c.write.new.self) c.write.ensures.step c.self.invariant.0, c.write.ensures.hints)
