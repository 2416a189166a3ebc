use Rattle.settled_laws.proofs.Chronicles.{have_chronicles}
use Rattle.settled_laws.proofs.settled_schedules_have_chronicles.Goals as goal

pub returns : goal.returns
returns c = have_chronicles
