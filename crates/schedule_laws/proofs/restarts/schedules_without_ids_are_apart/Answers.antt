use Rattle.schedule_laws.proofs.OwnIncarnations.{stay_apart}
use Rattle.schedule_laws.proofs.restarts.schedules_without_ids_are_apart.Goals as goal

pub returns : goal.returns
returns c = stay_apart c.blocks_stay.ensures
