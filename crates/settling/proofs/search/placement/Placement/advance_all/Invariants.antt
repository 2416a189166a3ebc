use Rattle.std.proofs.Common.{◌≤◌}
use Rattle.settling.specs.Search.Histories.{events_of_all}
use Rattle.settling.specs.Search.Placements.{Preserves, left_count}
use Rattle.settling.proofs.search.placement.Placement.advance_all.Given as goal

abbrev pub invariant-loop : goal.invariant-loop
invariant-loop g l = record {
  kept : Preserves (events_of_all l.histories) l.fn.self l.self;
  less : left_count (events_of_all l.histories) l.self.placed ≤ left_count (events_of_all l.histories) l.fn.self.placed;
}

abbrev pub decreases-loop : goal.decreases-loop
decreases-loop g l = left_count (events_of_all l.histories) l.self.placed
