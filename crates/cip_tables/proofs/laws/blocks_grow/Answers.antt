use Rattle.cip_tables.proofs.RunKeeps.{steps_grow}
use Rattle.cip_tables.proofs.laws.blocks_grow.Goals as goal

pub returns : goal.returns
returns c = steps_grow c.blocks_grow.ensures c.counters_never_fall.ensures.step
