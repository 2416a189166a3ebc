use Rattle.scanner.specs.Tables.{table_in}
use Rattle.scanner.proofs.Doing.{explicit_refused}
use Rattle.scanner.proofs.slots.ScannerSlots.request_explicit.Goals as goal

pub returns-in-Err-clause-step : goal.returns-in-Err-clause-step
returns-in-Err-clause-step c = explicit_refused (table_in c.args.self.now) c.args.target c.args.number c.args.bytes.now c.in-Err.why c.in-Err.ensures.outcome
