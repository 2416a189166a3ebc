use Rattle.scanner_table.proofs.WholeTicks.{step_whole}
use Rattle.scanner_table.proofs.laws.steps_keep_tables_well_formed.Goals as goal

pub returns : goal.returns
returns c = step_whole
