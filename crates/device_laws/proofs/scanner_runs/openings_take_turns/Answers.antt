use Rattle.scanner_table.specs.Turns.{OpeningsTakeTurns}
use Rattle.device_laws.proofs.RunLemmas.{over_scanners}
use Rattle.device_laws.proofs.scanner_runs.openings_take_turns.Goals as goal

pub returns : goal.returns
returns c = over_scanners OpeningsTakeTurns (λ t whole. whole.turns) c.tables_are_whole.ensures
