use Rattle.cip_types.specs.Ids.{end_number}
use Rattle.std.proofs.Common.{◌≤◌}
use Rattle.device_laws.proofs.RunLemmas.{over_scanners}
use Rattle.device_laws.proofs.scanner_runs.ids_end.Goals as goal

pub returns : goal.returns
returns c = over_scanners (λ t. t.next_id ≤ end_number t.ids) (λ t whole. whole.table.ids) c.tables_are_whole.ensures
