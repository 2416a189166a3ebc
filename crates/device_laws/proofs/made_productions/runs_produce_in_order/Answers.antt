use Rattle.device_laws.specs.Lemmas.ProductionRuns.{runs_in_order, steps_whole}
use Rattle.device_laws.proofs.made_productions.runs_produce_in_order.Goals as goal

pub returns : goal.returns
returns c = runs_in_order (steps_whole c.tables_are_whole.ensures.steps c.steps_keep_tables_whole.ensures) c.tables_are_whole-2.ensures.opening
