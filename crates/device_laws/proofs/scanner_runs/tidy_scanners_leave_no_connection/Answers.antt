use Rattle.device_laws.specs.TidyScanners.{TidyScannersLeaveNone}
use Rattle.device_laws.proofs.RunLemmas.{over_runs}
use Rattle.device_laws.proofs.TidyRuns.{events_leave_none}
use Rattle.device_laws.proofs.scanner_runs.tidy_scanners_leave_no_connection.Goals as goal

pub returns : goal.returns
returns c =
    over_runs TidyScannersLeaveNone c.runs_fold_events.ensures c.fresh_tables_are_whole.ensures
    (events_leave_none c.reads_back.ensures.items c.answers_are_small.ensures c.steps_keep_tables_whole.ensures c.counters_never_fall.ensures.events)
