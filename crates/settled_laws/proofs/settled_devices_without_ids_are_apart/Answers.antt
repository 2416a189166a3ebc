use Rattle.settled_laws.proofs.Chronicles.{without_ids_apart}
use Rattle.settled_laws.proofs.settled_devices_without_ids_are_apart.Goals as goal

pub returns : goal.returns
returns c = without_ids_apart c.schedules_without_ids_are_apart.ensures
