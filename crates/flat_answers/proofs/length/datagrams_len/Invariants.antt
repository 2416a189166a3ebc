use Rattle.std.proofs.Common.{◌≡◌, flat_map, length, take}
use Rattle.flat_answers.specs.Flat.{datagram_items}
use Rattle.flat_answers.specs.Places.{counted}
use Rattle.flat_answers.proofs.length.datagrams_len.Given as goal

abbrev pub invariant-loop-outgoing : goal.invariant-loop-outgoing
invariant-loop-outgoing l = l.len ≡ counted (length (flat_map datagram_items (take l.outgoing-index l.datagrams)))
