use Rattle.segment_world.proofs.Projecting.{projections_are_runs}
use Rattle.segment_world.proofs.laws.projections_are_runs.Goals as goal

pub returns : goal.returns
returns c = projections_are_runs
