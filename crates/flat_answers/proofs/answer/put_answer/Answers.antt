use Rattle.std.proofs.Common.{arith, List, ℕ, ◌++◌, length, flat_map, ap, subst}
use Rattle.flat_answers.specs.Flat.{verdict_item, frame_item, datagram_items, notice_item, answer_bytes}
use Rattle.flat_answers.specs.Places.{Puts}
use Rattle.flat_answers.proofs.Pieces.{two, whole, answer_length}
use Rattle.flat_answers.proofs.answer.put_answer.Goals as goal

pub put_verdict-at-requires : goal.put_verdict-at-requires
put_verdict-at-requires c = omega (arith, answer_length c.args.answer.now)

pub put_frames-at-requires : goal.put_frames-at-requires
put_frames-at-requires c =
    omega (arith, answer_length c.args.answer.now, ap (λ frames. length (flat_map frame_item frames)) c.as_slice.ensures)

pub put_datagrams-at-requires : goal.put_datagrams-at-requires
put_datagrams-at-requires c =
    omega (
      arith,
      answer_length c.args.answer.now,
      ap (λ frames. length (flat_map frame_item frames)) c.as_slice.ensures,
      ap (λ datagrams. length (flat_map datagram_items datagrams)) c.as_slice-2.ensures,
    )

pub put_notices-end-requires : goal.put_notices-end-requires
put_notices-end-requires c =
    omega (
      arith,
      answer_length c.args.answer.now,
      ap (λ frames. length (flat_map frame_item frames)) c.as_slice.ensures,
      ap (λ datagrams. length (flat_map datagram_items datagrams)) c.as_slice-2.ensures,
      ap (λ notices. length (flat_map notice_item notices)) c.as_slice-3.ensures,
    )

pub returns : goal.returns
unfolding answer_bytes
returns c =
    whole _ _ _ c.put_notices-end.result (subst (λ (text : List ℕ). Puts text 0 c.args.out.now c.put_notices-end.result c.put_notices-end.new.out)
    (λ i. verdict_item c.args.answer.now.verdict ++ (flat_map frame_item (c.as_slice.ensures i) ++ (flat_map datagram_items (c.as_slice-2.ensures i) ++ flat_map notice_item (c.as_slice-3.ensures i))))
    (two _ _ _ _ _ _ _ _ c.put_verdict-at.ensures (two _ _ _ _ _ _ _ _ c.put_frames-at.ensures (two _ _ _ _ _ _ _ _ c.put_datagrams-at.ensures c.put_notices-end.ensures))))
