use Rattle.std.proofs.Common.{◌≡◌, drop}
use Rattle.socket_port.specs.Rules.Keeping.{least_wait}
use Rattle.socket_port.proofs.rules.keeper.least_wait.Given as goal

abbrev pub invariant-loop-stream : goal.invariant-loop-stream
invariant-loop-stream l = least_wait l.limit_ms l.now_ms l.wait_ms (drop l.stream-index l.streams) ≡ least_wait l.limit_ms l.now_ms l.most_ms l.streams
