use Rattle.segment_world.proofs.Playing.{moments}
use Rattle.segment_world.proofs.lives.laws.moments_are_schedules.Goals as goal

pub returns : goal.returns
returns c = moments
