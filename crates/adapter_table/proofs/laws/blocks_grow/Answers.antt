use Rattle.adapter_table.specs.Lemmas.CounterSteps.{blocks_go_on}
use Rattle.adapter_table.proofs.laws.blocks_grow.Goals as goal

pub returns : goal.returns
returns c = blocks_go_on
