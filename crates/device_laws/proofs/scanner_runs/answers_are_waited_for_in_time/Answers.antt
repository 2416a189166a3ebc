use Rattle.scanner_table.specs.Waiting.{SlotsWaitInTime}
use Rattle.device_laws.proofs.RunLemmas.{over_scanners}
use Rattle.device_laws.proofs.scanner_runs.answers_are_waited_for_in_time.Goals as goal

pub returns : goal.returns
returns c = over_scanners SlotsWaitInTime (λ t whole. whole.waits) c.tables_are_whole.ensures
