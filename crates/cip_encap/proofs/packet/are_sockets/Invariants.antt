use Rattle.std.proofs.Common.{◌≡◌, ◌-◌}
use Rattle.cip_encap.specs.PacketReading.{are_sockets}
use Rattle.cip_encap.proofs.packet.are_sockets.Given as goal

abbrev pub invariant-loop-done : goal.invariant-loop-done
invariant-loop-done l = are_sockets (l.fn.count - l.done) l.rest ≡ are_sockets l.fn.count l.fn.bytes
