use Rattle.scanner_table.proofs.WholeTicks.{fresh_whole}
use Rattle.scanner_table.proofs.laws.fresh_tables_are_well_formed.Goals as goal

pub returns : goal.returns
returns c = fresh_whole
