use Rattle.device_laws.proofs.RunLemmas.{runs_fold}
use Rattle.device_laws.proofs.scanner_runs.runs_fold_events.Goals as goal

pub returns : goal.returns
returns c = runs_fold
