use Rattle.std.proofs.Common.{◌≡◌, drop}
use Rattle.socket_port.specs.Streams.Shortening.{and_bytes, seen_bytes}
use Rattle.socket_port.proofs.streams.shortener.Shortener.shorten.Given as goal

-- the bytes that are left lead from what was seen so far to all
abbrev pub invariant-loop-byte : goal.invariant-loop-byte
invariant-loop-byte l = and_bytes (l.out.items, l.self) (drop l.byte-index l.piece) ≡ seen_bytes l.initial.self l.piece
