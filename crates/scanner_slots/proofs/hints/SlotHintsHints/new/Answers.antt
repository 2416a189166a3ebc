use Rattle.scanner_slots.proofs.Bounded.{zeros_hold}
use Rattle.scanner_slots.proofs.hints.SlotHintsHints.new.Goals as goal

pub returns : goal.returns
returns c = zeros_hold
