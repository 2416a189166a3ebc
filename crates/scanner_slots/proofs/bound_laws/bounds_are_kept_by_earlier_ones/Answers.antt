use Rattle.scanner_slots.proofs.Bounded.{earlier_hints}
use Rattle.scanner_slots.proofs.bound_laws.bounds_are_kept_by_earlier_ones.Goals as goal

pub returns : goal.returns
returns c = earlier_hints
