-- The invariant of a scanner's table with all its laws: it holds of a fresh table whose profile has no fault, and every step
-- keeps it.
use Rattle.scanner_table.specs.declared.table.ScannerTable.{ScannerTable}
use Rattle.scanner_table.specs.WellFormed.{IsWellFormed}
use Rattle.scanner_table.specs.Drawn.{NumbersAreOwn}
use Rattle.scanner_table.specs.Producers.{SlotsProduceAsThemselves}
use Rattle.scanner_table.specs.Waiting.{SlotsWaitInTime}
use Rattle.scanner_table.specs.Turns.{OpeningsTakeTurns}
use Rattle.scanner_table.specs.Pending.{ExplicitArePending}

-- The table is whole by its own definition; its numbers were allocated, and no id is used twice; each slot produces by its own
-- number for its own target; no slot waits too long for a reply; no target has more openings at one time than the profile allows; and
-- the explicit requests are pending.
pub record IsWholeScanner (t : ScannerTable) : Type 0 where
  pub table : IsWellFormed t
  pub numbers : NumbersAreOwn t
  pub producers : SlotsProduceAsThemselves t
  pub waits : SlotsWaitInTime t
  pub turns : OpeningsTakeTurns t
  pub explicit : ExplicitArePending t
