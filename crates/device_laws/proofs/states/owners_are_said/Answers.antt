use Rattle.device_laws.proofs.OwnerReports.{owners_said}
use Rattle.device_laws.proofs.states.owners_are_said.Goals as goal

pub returns : goal.returns
returns c = owners_said c.at_most_one_owner.ensures
