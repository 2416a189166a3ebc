use Rattle.object_laws.proofs.RouteLaws.{own_services_ask}
use Rattle.object_laws.proofs.services.own_services_ask_alone.Goals as goal

pub returns : goal.returns
returns c = own_services_ask
