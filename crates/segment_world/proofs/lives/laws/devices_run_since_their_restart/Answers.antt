use Rattle.segment_world.proofs.Playing.{devices_run}
use Rattle.segment_world.proofs.lives.laws.devices_run_since_their_restart.Goals as goal

pub returns : goal.returns
returns c = devices_run c.projections_are_runs.ensures
