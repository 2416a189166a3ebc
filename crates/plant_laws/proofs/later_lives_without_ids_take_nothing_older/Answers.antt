use Rattle.plant_laws.proofs.OwnIds.{without_ids}
use Rattle.plant_laws.proofs.later_lives_without_ids_take_nothing_older.Goals as goal

pub returns : goal.returns
returns c = without_ids c.stories_without_ids_are_played.ensures c.later_lives_take_nothing_older.ensures
