use Rattle.device_laws.proofs.RunLemmas.{reached_scanners}
use Rattle.device_laws.proofs.scanner_runs.tables_are_whole.Goals as goal

pub returns : goal.returns
returns c = reached_scanners c.tables_are_whole.ensures.run c.tables_are_whole.ensures.opening
