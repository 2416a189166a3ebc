use Rattle.scanner_slots.proofs.Changes.{write_narrowed}
use Rattle.scanner_slots.proofs.bound_laws.writes_narrow_bounds.Goals as goal

pub returns : goal.returns
returns c = write_narrowed
