use Rattle.cip_events.specs.declared.event.Event.TheVariants.{Tick}
use Rattle.scanner.specs.Tables.{table_in}
use Rattle.scanner.proofs.Kept.{follows_kept}
use Rattle.scanner.proofs.engine.ScannerDevice.step.Goals as goal

pub invariant_of-self : goal.invariant_of-self
invariant_of-self g c = (follows_kept c.steps_keep_tables_whole.ensures (table_in c.self.inside.slots) (Tick c.in-Tick.ms) c.tick.result (table_in c.tick.new.self) c.tick.ensures.step c.self.invariant.0, c.tick.ensures.hints)
