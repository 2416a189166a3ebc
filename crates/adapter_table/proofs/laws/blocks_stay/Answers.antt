use Rattle.adapter_table.specs.Lemmas.CounterSteps.{ids_stay}
use Rattle.adapter_table.proofs.laws.blocks_stay.Goals as goal

pub returns : goal.returns
returns c = ids_stay
