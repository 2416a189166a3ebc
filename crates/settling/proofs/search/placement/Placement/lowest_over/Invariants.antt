use Rattle.settling.specs.Search.Histories.{bytes_of, events_of_all}
use Rattle.settling.specs.Search.Lowest.{IsLowest}
use Rattle.settling.specs.Search.Placements.{IsOver, IsPlaced}
use Rattle.settling.proofs.search.placement.Placement.lowest_over.Given as goal

abbrev pub invariant-loop-device : goal.invariant-loop-device
invariant-loop-device g l = IsLowest (IsPlaced (events_of_all l.histories) l.self) (IsOver (events_of_all l.histories) l.self) (bytes_of l.histories) l.device l.best
