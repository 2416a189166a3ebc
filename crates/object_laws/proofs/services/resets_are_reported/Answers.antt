use Rattle.object_laws.proofs.RouteLaws.{resets_said}
use Rattle.object_laws.proofs.ServiceLaws.{resets_stay}
use Rattle.object_laws.proofs.services.resets_are_reported.Goals as goal

pub returns : goal.returns
returns c = record { stays = resets_stay; reported = resets_said }
