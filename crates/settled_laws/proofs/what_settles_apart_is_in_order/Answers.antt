use Rattle.settled_laws.proofs.Chronicles.{settled_in_order}
use Rattle.settled_laws.proofs.what_settles_apart_is_in_order.Goals as goal

pub returns : goal.returns
returns c = settled_in_order c.settled_histories_are_apart.ensures c.settled_lines_are_in_order.ensures
