use Rattle.adapter_table.specs.Lemmas.CounterSteps.{steps_count}
use Rattle.adapter_table.proofs.laws.counters_never_fall.Goals as goal

pub returns : goal.returns
returns c = steps_count
