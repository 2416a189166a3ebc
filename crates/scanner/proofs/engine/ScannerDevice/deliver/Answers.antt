use Rattle.scanner.proofs.Kept.{received_kept}
use Rattle.scanner.proofs.engine.ScannerDevice.deliver.Goals as goal

pub invariant_of-self : goal.invariant_of-self
invariant_of-self g c = (received_kept c.steps_keep_tables_whole.ensures _ c.args.peer c.args.bytes.now c.receive.result _ c.receive.ensures.step c.self.invariant.0, c.receive.ensures.hints c.self.invariant.1)
