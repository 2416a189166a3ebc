use Rattle.object_laws.proofs.CountLaws.{counted_on_each}
use Rattle.object_laws.proofs.services.requests_are_counted_once.Goals as goal

pub returns : goal.returns
returns c = counted_on_each
