use Rattle.segment_world.proofs.Playing.{lives_run}
use Rattle.segment_world.proofs.lives.laws.lives_are_runs.Goals as goal

pub returns : goal.returns
returns c = lives_run c.projections_are_runs.ensures
