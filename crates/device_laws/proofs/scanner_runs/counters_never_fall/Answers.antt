use Rattle.scanner_table.specs.Counters.{CountsOn}
use Rattle.device_laws.proofs.RunLemmas.{over_runs}
use Rattle.device_laws.proofs.scanner_runs.counters_never_fall.Goals as goal

pub returns : goal.returns
returns c = over_runs (λ old events new. CountsOn old new) c.runs_fold_events.ensures c.fresh_tables_are_whole.ensures (λ t events whole. c.counters_never_fall.ensures.events t events)
