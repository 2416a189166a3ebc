use Rattle.segment_world.proofs.Playing.{later_lives}
use Rattle.segment_world.proofs.lives.laws.later_lives_have_no_events.Goals as goal

pub returns : goal.returns
returns c = later_lives
