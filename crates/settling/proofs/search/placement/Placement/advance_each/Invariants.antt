use Rattle.settling.specs.Search.Histories.{events_of_all}
use Rattle.settling.specs.Search.Placements.{Moved, Preserves}
use Rattle.settling.proofs.search.placement.Placement.advance_each.Given as goal

abbrev pub invariant-loop-device : goal.invariant-loop-device
invariant-loop-device g l = record {
  kept : Preserves (events_of_all l.histories) l.fn.self l.self;
  moved : Moved (events_of_all l.histories) l.fn.self l.self l.moved;
}
