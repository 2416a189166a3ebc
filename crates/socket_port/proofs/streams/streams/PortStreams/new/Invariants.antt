use Rattle.std.proofs.Common.{◌≡◌, replicate, vec_len, None}
use Rattle.socket_port.proofs.streams.streams.PortStreams.new.Given as goal

abbrev pub invariant-loop : goal.invariant-loop
invariant-loop g l = (l.slots.items ≡ replicate l.counter None) × (vec_len l.slots ≡ l.counter)
