use Rattle.plant_laws.proofs.Chronicling.{older}
use Rattle.plant_laws.proofs.later_lives_take_nothing_older.Goals as goal

pub returns : goal.returns
returns c = older c.blocks_grow.ensures c.moments_are_schedules.ensures c.stories_are_schedules.ensures c.later_lives_have_no_events.ensures c.stories_grow.ensures c.incarnations_name_lives.ensures c.a_new_life_takes_nothing_older.ensures
