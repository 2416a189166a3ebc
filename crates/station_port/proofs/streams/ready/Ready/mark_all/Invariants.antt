use Rattle.std.proofs.Common.{◌≡◌, false}
use Rattle.station_port.proofs.streams.ready.Ready.mark_all.Given as goal

-- no event that was marked says that a connection could not be accepted
abbrev pub invariant-loop-event : goal.invariant-loop-event
invariant-loop-event l = l.self.refused ≡ false
