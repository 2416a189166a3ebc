use Rattle.plant_laws.proofs.OwnIds.{played}
use Rattle.plant_laws.proofs.stories_without_ids_are_played.Goals as goal

pub returns : goal.returns
returns c = played c.stories_are_schedules.ensures c.incarnations_name_lives.ensures c.schedules_without_ids_are_apart.ensures
