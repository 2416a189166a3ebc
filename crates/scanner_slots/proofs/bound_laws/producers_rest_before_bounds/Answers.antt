use Rattle.scanner_slots.proofs.Resting.{nothing_sent, nothing_produced}
use Rattle.scanner_slots.proofs.bound_laws.producers_rest_before_bounds.Goals as goal

pub returns : goal.returns
returns c = record { sent = nothing_sent; table = nothing_produced }
