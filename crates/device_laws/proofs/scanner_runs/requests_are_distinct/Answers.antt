use Rattle.scanner_table.specs.WellFormed.{RequestsDiffer}
use Rattle.device_laws.proofs.RunLemmas.{over_scanners}
use Rattle.device_laws.proofs.scanner_runs.requests_are_distinct.Goals as goal

pub returns : goal.returns
returns c = over_scanners (λ t. RequestsDiffer t.slots) (λ t whole. whole.table.requests_differ) c.tables_are_whole.ensures
