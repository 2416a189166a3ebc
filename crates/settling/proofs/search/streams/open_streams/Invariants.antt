use Rattle.settling.specs.Search.Histories.{events_of_all}
use Rattle.settling.specs.Search.Openings.{Opened}
use Rattle.settling.proofs.search.streams.open_streams.Given as goal

abbrev pub invariant-loop-number : goal.invariant-loop-number
invariant-loop-number g l = Opened l.fn.world (events_of_all l.histories) l.number l.acts.items l.world
