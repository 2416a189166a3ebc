use Rattle.scanner_slots.proofs.SlotLemmas.{found_slot}
use Rattle.scanner_slots.proofs.laws.found_slots_match.Goals as goal

pub returns : goal.returns
returns c = found_slot
