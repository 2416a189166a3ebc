use Rattle.std.proofs.Common.{arith}
use Rattle.flat_answers.specs.Flat.{frame_item}
use Rattle.flat_answers.proofs.Pieces.{fits, more}
use Rattle.flat_answers.proofs.answer.put_frames.Goals as goal

pub put_frame-end-requires : goal.put_frame-end-requires
put_frame-end-requires c = fits frame_item c.args.frames.now c.loop-frame.frame-index _ _ c.args.at c.loop-frame.end c.args.out.now c.loop-frame.out (omega arith) c.frame-item.is c.requires c.loop-frame.invariant

pub loop-frame-preserved : goal.loop-frame-preserved
loop-frame-preserved c = more frame_item c.args.frames.now c.loop-frame.frame-index _ _ c.args.at c.loop-frame.end _ c.args.out.now c.loop-frame.out _ (omega arith) c.frame-item.is c.loop-frame.invariant c.put_frame-end.ensures
