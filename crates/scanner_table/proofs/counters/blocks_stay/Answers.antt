use Rattle.scanner_table.proofs.CounterSteps.{steps_leave}
use Rattle.scanner_table.proofs.counters.blocks_stay.Goals as goal

pub returns : goal.returns
returns c = steps_leave
