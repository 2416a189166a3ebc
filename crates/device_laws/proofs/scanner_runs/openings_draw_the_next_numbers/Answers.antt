use Rattle.device_laws.specs.ScannerOpenings.{OpeningsBegin}
use Rattle.device_laws.proofs.RunLemmas.{over_runs}
use Rattle.device_laws.proofs.scanner_runs.openings_draw_the_next_numbers.Goals as goal

pub returns : goal.returns
returns c = over_runs (λ old events new. OpeningsBegin old new) c.runs_fold_events.ensures c.fresh_tables_are_whole.ensures (λ t events whole. c.openings_draw_the_next_numbers.ensures.events t events)
