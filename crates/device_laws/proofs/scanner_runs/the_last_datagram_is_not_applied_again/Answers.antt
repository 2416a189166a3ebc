use Rattle.device_laws.specs.Newest.{IsNotAgain}
use Rattle.device_laws.specs.ScannerRuns.{AcceptsAfter}
use Rattle.device_laws.proofs.RunLemmas.{over_runs}
use Rattle.device_laws.proofs.scanner_runs.the_last_datagram_is_not_applied_again.Goals as goal

pub returns : goal.returns
returns c =
    over_runs (AcceptsAfter IsNotAgain) c.runs_fold_events.ensures c.fresh_tables_are_whole.ensures
    (λ t events whole number opening. c.the_last_datagram_is_not_applied_again.ensures.events number opening t events (c.openings_are_numbered.ensures.whole t whole.table))
