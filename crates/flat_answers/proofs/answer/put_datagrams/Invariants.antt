use Rattle.std.proofs.Common.{flat_map, take}
use Rattle.flat_answers.specs.Flat.{datagram_items}
use Rattle.flat_answers.specs.Places.{Puts}
use Rattle.flat_answers.proofs.answer.put_datagrams.Given as goal

abbrev pub invariant-loop-outgoing : goal.invariant-loop-outgoing
invariant-loop-outgoing l = Puts (flat_map datagram_items (take l.outgoing-index l.datagrams)) l.fn.at l.fn.out l.end l.out
