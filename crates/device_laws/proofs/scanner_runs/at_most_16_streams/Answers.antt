use Rattle.std.proofs.Common.{◌≤◌, length}
use Rattle.device_laws.proofs.RunLemmas.{over_scanners}
use Rattle.device_laws.proofs.scanner_runs.at_most_16_streams.Goals as goal

pub returns : goal.returns
returns c = over_scanners (λ t. length t.streams ≤ 16) (λ t whole. whole.table.few_streams) c.tables_are_whole.ensures
