use Rattle.segment_world.proofs.Playing.{schedules}
use Rattle.segment_world.proofs.lives.laws.stories_are_schedules.Goals as goal

pub returns : goal.returns
returns c = schedules
