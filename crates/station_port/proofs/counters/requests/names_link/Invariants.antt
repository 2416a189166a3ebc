use Rattle.std.proofs.Common.{◌≡◌, drop}
use Rattle.station_port.specs.Counters.Requests.{names_link}
use Rattle.station_port.proofs.counters.requests.names_link.Given as goal

abbrev pub invariant-loop-at : goal.invariant-loop-at
invariant-loop-at l = names_link (drop l.at l.fn.bytes) ≡ names_link l.fn.bytes
