use Rattle.scanner_slots.proofs.Resting.{timed_hints}
use Rattle.scanner_slots.proofs.bound_laws.hints_are_times.Goals as goal

pub returns : goal.returns
returns c = timed_hints
