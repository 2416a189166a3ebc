use Rattle.std.proofs.Common.{◌≡◌, ◌≤◌, drop, max}
use Rattle.settling.specs.Search.Histories.{events_of_all}
use Rattle.settling.specs.Search.Openings.{named_by}
use Rattle.settling.proofs.search.streams.count_named.Given as goal

abbrev pub invariant-loop-history : goal.invariant-loop-history
invariant-loop-history l = record {
  most : max (named_by (events_of_all (drop l.history-index l.histories))) l.most ≡ named_by (events_of_all l.histories);
  small : l.most ≤ 65536;
}
