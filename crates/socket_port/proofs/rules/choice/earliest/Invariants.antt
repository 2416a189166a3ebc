use Rattle.std.proofs.Common.{◌≡◌, drop, None}
use Rattle.socket_port.specs.Rules.Keeping.{earliest, last_in}
use Rattle.socket_port.proofs.rules.choice.earliest.Given as goal

abbrev pub invariant-loop-stream : goal.invariant-loop-stream
invariant-loop-stream l = earliest (last_in l.group l.peer l.connected l.owners) l.best (drop l.stream-index l.streams) ≡ earliest (last_in l.group l.peer l.connected l.owners) None l.streams
