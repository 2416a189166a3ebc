use Rattle.scanner_slots.proofs.Resting.{connections_rest}
use Rattle.scanner_slots.proofs.bound_laws.connections_rest_before_bounds.Goals as goal

pub returns : goal.returns
returns c = connections_rest
