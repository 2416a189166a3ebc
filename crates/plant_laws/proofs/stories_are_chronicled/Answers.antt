use Rattle.plant_laws.proofs.Chronicling.{chronicled}
use Rattle.plant_laws.proofs.stories_are_chronicled.Goals as goal

pub returns : goal.returns
returns c = chronicled c.stories_are_schedules.ensures c.incarnations_name_lives.ensures
