use Rattle.settled_laws.proofs.Chronicles.{without_ids_in_order}
use Rattle.settled_laws.proofs.settled_lines_without_ids_are_in_order.Goals as goal

pub returns : goal.returns
returns c = without_ids_in_order c.settled_devices_without_ids_are_apart.ensures c.settled_lines_are_in_order.ensures
