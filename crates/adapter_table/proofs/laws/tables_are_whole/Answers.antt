use Rattle.adapter_table.proofs.WholeSteps.{whole_effects, whole_step, whole_fresh}
use Rattle.adapter_table.proofs.laws.tables_are_whole.Goals as goal

pub returns : goal.returns
returns c = record { fresh = whole_fresh; effects = whole_effects; steps = whole_step }
