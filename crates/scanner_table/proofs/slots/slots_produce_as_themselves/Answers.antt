use Rattle.scanner_table.proofs.ProducerSteps.{producers_law}
use Rattle.scanner_table.proofs.slots.slots_produce_as_themselves.Goals as goal

pub returns : goal.returns
returns c = producers_law
