use Rattle.scanner_table.proofs.WholeTicks.{advancing_whole}
use Rattle.scanner_table.proofs.laws.advancing_keeps_tables_well_formed.Goals as goal

pub returns : goal.returns
returns c = advancing_whole
