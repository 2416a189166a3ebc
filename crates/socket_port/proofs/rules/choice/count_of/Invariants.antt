use Rattle.std.proofs.Common.{◌≡◌, ◌≤◌, drop}
use Rattle.socket_port.specs.Rules.Keeping.{count_of}
use Rattle.socket_port.proofs.rules.choice.count_of.Given as goal

abbrev pub invariant-loop-stream : goal.invariant-loop-stream
invariant-loop-stream l = (count_of l.peer l.count (drop l.stream-index l.streams) ≡ count_of l.peer 0 l.streams) × (l.count ≤ l.stream-index)
