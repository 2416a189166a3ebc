use Rattle.scanner_table.proofs.OpeningTurns.{turns_law}
use Rattle.scanner_table.proofs.slots.openings_take_turns.Goals as goal

pub returns : goal.returns
returns c = turns_law
