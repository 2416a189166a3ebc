use Rattle.segment_world.proofs.Growing.{grow}
use Rattle.segment_world.proofs.lives.laws.stories_grow.Goals as goal

pub returns : goal.returns
returns c = grow
