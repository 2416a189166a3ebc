use Rattle.settling.specs.Search.Histories.{events_of_all}
use Rattle.settling.specs.Search.Placements.{Moved, Preserves, left_count}
use Rattle.settling.proofs.search.placement.Placement.advance.Given as goal

abbrev pub invariant-loop-moved : goal.invariant-loop-moved
invariant-loop-moved g l = record {
  kept : Preserves (events_of_all l.histories) l.fn.self l.self;
  moved : Moved (events_of_all l.histories) l.fn.self l.self l.moved;
}

abbrev pub decreases-loop-moved : goal.decreases-loop-moved
decreases-loop-moved g l = left_count (events_of_all l.histories) l.self.placed
