use Rattle.scanner_table.specs.Slots.{indexed_slots}
use Rattle.scanner_table.specs.WellFormed.{IdsDiffer}
use Rattle.device_laws.proofs.RunLemmas.{over_scanners}
use Rattle.device_laws.proofs.scanner_runs.ids_are_distinct.Goals as goal

pub returns : goal.returns
returns c = over_scanners (λ t. IdsDiffer (indexed_slots t)) (λ t whole. whole.table.ids_differ) c.tables_are_whole.ensures
