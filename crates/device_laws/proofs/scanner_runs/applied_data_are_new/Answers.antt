use Rattle.device_laws.specs.Newest.{IsAppliedNew}
use Rattle.device_laws.specs.ScannerRuns.{AcceptsAfter}
use Rattle.device_laws.proofs.RunLemmas.{over_runs}
use Rattle.device_laws.proofs.scanner_runs.applied_data_are_new.Goals as goal

pub returns : goal.returns
returns c =
    over_runs (AcceptsAfter IsAppliedNew) c.runs_fold_events.ensures c.fresh_tables_are_whole.ensures
    (λ t events whole number opening. c.applied_data_are_new.ensures.events number opening t events (c.openings_are_numbered.ensures.whole t whole.table))
