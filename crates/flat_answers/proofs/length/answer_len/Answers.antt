use Rattle.std.proofs.Common.{arith, length, flat_map, ap}
use Rattle.flat_answers.specs.Flat.{frame_item, datagram_items}
use Rattle.flat_answers.proofs.Pieces.{answer_length, notices_length}
use Rattle.flat_answers.proofs.length.answer_len.Goals as goal

pub returns : goal.returns
returns c =
    omega (
      arith,
      answer_length c.args.answer.now,
      notices_length c.args.answer.now.notices,
      ap length c.as_slice-3.ensures,
      ap (λ frames. length (flat_map frame_item frames)) c.as_slice.ensures,
      ap (λ datagrams. length (flat_map datagram_items datagrams)) c.as_slice-2.ensures,
    )
