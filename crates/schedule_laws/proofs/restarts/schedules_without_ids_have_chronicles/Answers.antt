use Rattle.schedule_laws.proofs.OwnIncarnations.{have_chronicles}
use Rattle.schedule_laws.proofs.restarts.schedules_without_ids_have_chronicles.Goals as goal

pub returns : goal.returns
returns c = have_chronicles c.schedules_without_ids_are_apart.ensures
