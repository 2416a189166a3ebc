use Rattle.object_laws.proofs.ListLaws.{nothing_listed, objects_listed}
use Rattle.object_laws.proofs.services.objects_are_listed.Goals as goal

pub returns : goal.returns
returns c = record { listed = objects_listed; none = nothing_listed }
