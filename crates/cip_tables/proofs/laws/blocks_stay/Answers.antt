use Rattle.cip_tables.proofs.RunKeeps.{steps_leave}
use Rattle.cip_tables.proofs.laws.blocks_stay.Goals as goal

pub returns : goal.returns
returns c = steps_leave c.blocks_stay.ensures c.blocks_stay-2.ensures
