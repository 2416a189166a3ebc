use Rattle.scanner_table.specs.Producers.{SlotsProduceAsThemselves}
use Rattle.device_laws.proofs.RunLemmas.{over_scanners}
use Rattle.device_laws.proofs.scanner_runs.slots_produce_as_themselves.Goals as goal

pub returns : goal.returns
returns c = over_scanners SlotsProduceAsThemselves (λ t whole. whole.producers) c.tables_are_whole.ensures
