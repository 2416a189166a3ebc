use Rattle.std.proofs.Common.{arith, length, flat_map, ap, length-append}
use Rattle.flat_answers.specs.Flat.{head, item, consumer_item}
use Rattle.flat_answers.proofs.Pieces.{consumers_length, item_length}
use Rattle.flat_answers.proofs.length.datagram_len.Goals as goal

pub returns : goal.returns
returns c =
    let it = head 32 c.args.outgoing.now.address.0 0 0 0 in
    omega (
      arith,
      c.item_len.ensures it,
      item_length it c.args.outgoing.now.bytes,
      item_length it c.as_slice.result.now,
      ap length c.as_slice.ensures,
      ap length c.as_slice-2.ensures,
      length-append (item it c.args.outgoing.now.bytes) (flat_map consumer_item c.args.outgoing.now.nodes),
      consumers_length c.args.outgoing.now.nodes,
    )
