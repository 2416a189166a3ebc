use Rattle.device_laws.specs.ScannerRuns.{OpensAbove}
use Rattle.device_laws.proofs.RunLemmas.{over_runs}
use Rattle.device_laws.proofs.scanner_runs.request_numbers_rise.Goals as goal

pub returns : goal.returns
returns c = over_runs OpensAbove c.runs_fold_events.ensures c.fresh_tables_are_whole.ensures (λ t events whole. c.request_numbers_rise.ensures t events)
