use Rattle.settling.specs.Search.Histories.{bytes_of, events_of_all}
use Rattle.settling.specs.Search.Lowest.{IsLowest}
use Rattle.settling.specs.Receipts.{HasItsMarks, LacksItsMark}
use Rattle.settling.proofs.receipts.first_missing.Given as goal

abbrev pub invariant-loop-device : goal.invariant-loop-device
invariant-loop-device l = IsLowest (HasItsMarks (events_of_all l.histories) l.marks) (LacksItsMark (events_of_all l.histories) l.marks) (bytes_of l.histories) l.device l.best
