use Rattle.scanner_table.proofs.ProducerSteps.{waits_law}
use Rattle.scanner_table.proofs.slots.answers_are_waited_for_in_time.Goals as goal

pub returns : goal.returns
returns c = waits_law
