use Rattle.std.proofs.Common.{◌≡◌, ◌<◌, ℕ}
use Rattle.settling.specs.Search.Histories.{events_of_all}
use Rattle.settling.specs.Search.Placements.{StuckHere}
use Rattle.settling.proofs.search.placement.Placement.place_one.Given as goal

abbrev pub invariant-loop-device : goal.invariant-loop-device
invariant-loop-device g l = record {
  same : l.self ≡ l.fn.self;
  stuck : (j : ℕ) → j < l.device → StuckHere (events_of_all l.histories) l.self j;
}
