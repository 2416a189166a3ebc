use Rattle.std.proofs.Common.{arith}
use Rattle.flat_answers.specs.Flat.{datagram_items}
use Rattle.flat_answers.proofs.Pieces.{fits, more}
use Rattle.flat_answers.proofs.answer.put_datagrams.Goals as goal

pub put_datagram-end-requires : goal.put_datagram-end-requires
put_datagram-end-requires c = fits datagram_items c.args.datagrams.now c.loop-outgoing.outgoing-index _ _ c.args.at c.loop-outgoing.end c.args.out.now c.loop-outgoing.out (omega arith) c.outgoing-item.is c.requires c.loop-outgoing.invariant

pub loop-outgoing-preserved : goal.loop-outgoing-preserved
loop-outgoing-preserved c = more datagram_items c.args.datagrams.now c.loop-outgoing.outgoing-index _ _ c.args.at c.loop-outgoing.end _ c.args.out.now c.loop-outgoing.out _ (omega arith) c.outgoing-item.is c.loop-outgoing.invariant c.put_datagram-end.ensures
