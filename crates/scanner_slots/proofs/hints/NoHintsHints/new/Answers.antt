use Rattle.scanner_slots.proofs.Bounded.{zeros_hold}
use Rattle.scanner_slots.proofs.hints.NoHintsHints.new.Goals as goal

pub returns : goal.returns
returns c = zeros_hold
