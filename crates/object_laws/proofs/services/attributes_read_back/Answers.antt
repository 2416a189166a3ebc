use Rattle.object_laws.proofs.RouteLaws.{attributes_said}
use Rattle.object_laws.proofs.services.attributes_read_back.Goals as goal

pub returns : goal.returns
returns c = attributes_said
