use Rattle.settling.specs.Search.Histories.{events_of_all}
use Rattle.settling.specs.Search.Placements.{Preserves, left_count}
use Rattle.settling.proofs.search.placement.Placement.place_all.Given as goal

abbrev pub invariant-loop-self : goal.invariant-loop-self
invariant-loop-self g l = Preserves (events_of_all l.histories) l.fn.self l.self

abbrev pub decreases-loop-self : goal.decreases-loop-self
decreases-loop-self g l = left_count (events_of_all l.histories) l.self.placed
