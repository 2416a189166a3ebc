use Rattle.std.proofs.Common.{◌≡◌, drop}
use Rattle.settling.specs.Search.Openings.{peer_in}
use Rattle.settling.proofs.search.streams.peer_among.Given as goal

abbrev pub invariant-loop-event : goal.invariant-loop-event
invariant-loop-event l = peer_in l.number (drop l.event-index l.events) ≡ peer_in l.number l.events
