use Rattle.settled_laws.proofs.SharedIds.{settled_apart}
use Rattle.settled_laws.proofs.settled_histories_are_apart.Goals as goal

pub returns : goal.returns
returns c = settled_apart c.projections_are_runs.ensures
