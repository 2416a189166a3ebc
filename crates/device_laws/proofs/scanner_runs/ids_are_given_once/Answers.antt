use Rattle.device_laws.specs.ScannerRuns.{OpensWithNewId}
use Rattle.device_laws.proofs.RunLemmas.{over_runs}
use Rattle.device_laws.proofs.scanner_runs.ids_are_given_once.Goals as goal

pub returns : goal.returns
returns c = over_runs OpensWithNewId c.runs_fold_events.ensures c.fresh_tables_are_whole.ensures (λ t events whole id drawn. c.ids_are_given_once.ensures t events id whole.table.blocks drawn)
