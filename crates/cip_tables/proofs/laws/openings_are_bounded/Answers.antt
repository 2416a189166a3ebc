use Rattle.cip_tables.proofs.RunKeeps.{reached_opens}
use Rattle.cip_tables.proofs.laws.openings_are_bounded.Goals as goal

pub returns : goal.returns
returns c = reached_opens c.openings_are_bounded.ensures.steps c.openings_are_bounded.ensures.fresh
