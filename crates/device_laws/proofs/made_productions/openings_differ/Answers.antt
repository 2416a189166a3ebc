use Rattle.device_laws.specs.Lemmas.ProductionRuns.{openings_differ}
use Rattle.device_laws.proofs.made_productions.openings_differ.Goals as goal

pub returns : goal.returns
returns c = openings_differ
