use Rattle.scanner_table.specs.WellFormed.{StreamsDiffer}
use Rattle.device_laws.proofs.RunLemmas.{over_scanners}
use Rattle.device_laws.proofs.scanner_runs.streams_are_distinct.Goals as goal

pub returns : goal.returns
returns c = over_scanners (λ t. StreamsDiffer t.streams) (λ t whole. whole.table.streams_differ) c.tables_are_whole.ensures
