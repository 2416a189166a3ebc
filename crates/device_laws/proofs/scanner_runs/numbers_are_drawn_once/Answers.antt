use Rattle.scanner_table.specs.Drawn.{NumbersAreOwn}
use Rattle.device_laws.proofs.RunLemmas.{over_scanners}
use Rattle.device_laws.proofs.scanner_runs.numbers_are_drawn_once.Goals as goal

pub returns : goal.returns
returns c = over_scanners NumbersAreOwn (λ t whole. whole.numbers) c.tables_are_whole.ensures
