use Rattle.std.proofs.Common.{◌≡◌, ◌≤◌, drop, max}
use Rattle.settling.specs.Search.Openings.{named_in}
use Rattle.settling.proofs.search.streams.named_among.Given as goal

abbrev pub invariant-loop-event : goal.invariant-loop-event
invariant-loop-event l = record {
  most : max (named_in (drop l.event-index l.events)) l.most ≡ named_in l.events;
  small : l.most ≤ 65536;
}
