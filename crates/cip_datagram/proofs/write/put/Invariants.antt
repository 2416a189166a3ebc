use Rattle.std.proofs.Common.{◌≡◌, ◌+◌, ◌++◌, take}
use Rattle.std.specs.Vec.{vec_len, vec_capacity}
use Rattle.cip_datagram.proofs.write.put.Given as goal

abbrev pub invariant-loop-byte : goal.invariant-loop-byte
invariant-loop-byte l = (vec_len l.out ≡ vec_len l.fn.out + l.byte-index) × (vec_capacity l.out ≡ vec_capacity l.fn.out) × (l.out.items ≡ l.fn.out.items ++ take l.byte-index l.bytes)
