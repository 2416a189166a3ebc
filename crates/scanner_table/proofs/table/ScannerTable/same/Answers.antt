use Rattle.std.proofs.Common.{rules}
use Rattle.scanner_table.proofs.EqLemmas.{scanner_decides}
use Rattle.scanner_table.proofs.table.ScannerTable.same.Goals as goal

pub returns : goal.returns
returns c = let d = scanner_decides c.args.self.now c.args.other.now in search rules
