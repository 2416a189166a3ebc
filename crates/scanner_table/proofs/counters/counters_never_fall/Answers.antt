use Rattle.scanner_table.proofs.CounterSteps.{steps_count, events_count, whole_full}
use Rattle.scanner_table.proofs.counters.counters_never_fall.Goals as goal

pub returns : goal.returns
returns c = record { step = steps_count; events = events_count; whole = whole_full }
