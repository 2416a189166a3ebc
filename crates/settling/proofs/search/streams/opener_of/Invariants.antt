use Rattle.std.proofs.Common.{◌≡◌, drop}
use Rattle.settling.specs.Search.Histories.{events_of_all}
use Rattle.settling.specs.Search.Openings.{opener}
use Rattle.settling.proofs.search.streams.opener_of.Given as goal

abbrev pub invariant-loop-device : goal.invariant-loop-device
invariant-loop-device l = opener l.number l.device (events_of_all (drop l.device l.histories)) ≡ opener l.number 0 (events_of_all l.histories)
