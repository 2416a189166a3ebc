use Rattle.scanner_table.proofs.WholeTicks.{whole_later}
use Rattle.scanner_table.proofs.table.ScannerTable.with_next_id.Goals as goal

pub returns-clause-whole : goal.returns-clause-whole
returns-clause-whole c = whole_later c.args.self c.args.counter c.requires.later c.requires.last c.requires.whole
