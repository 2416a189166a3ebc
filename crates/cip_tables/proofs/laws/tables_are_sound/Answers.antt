use Rattle.cip_tables.proofs.RunKeeps.{reached_sound}
use Rattle.cip_tables.proofs.laws.tables_are_sound.Goals as goal

pub returns : goal.returns
returns c = reached_sound c.tables_are_sound.ensures.steps c.tables_are_sound.ensures.fresh
