use Rattle.device_laws.specs.Newest.{HasNewerNumber}
use Rattle.device_laws.specs.ScannerRuns.{AcceptsAfter}
use Rattle.device_laws.proofs.RunLemmas.{over_runs}
use Rattle.device_laws.proofs.scanner_runs.accepted_numbers_are_newer.Goals as goal

pub returns : goal.returns
returns c =
    over_runs (AcceptsAfter HasNewerNumber) c.runs_fold_events.ensures c.fresh_tables_are_whole.ensures
    (λ t events whole number opening. c.accepted_numbers_are_newer.ensures.events number opening t events (c.openings_are_numbered.ensures.whole t whole.table))
