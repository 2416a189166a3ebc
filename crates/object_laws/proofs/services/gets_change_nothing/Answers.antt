use Rattle.object_laws.proofs.ServiceLaws.{gets_stay}
use Rattle.object_laws.proofs.services.gets_change_nothing.Goals as goal

pub returns : goal.returns
returns c = gets_stay
