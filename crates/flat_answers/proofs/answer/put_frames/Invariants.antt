use Rattle.std.proofs.Common.{flat_map, take}
use Rattle.flat_answers.specs.Flat.{frame_item}
use Rattle.flat_answers.specs.Places.{Puts}
use Rattle.flat_answers.proofs.answer.put_frames.Given as goal

abbrev pub invariant-loop-frame : goal.invariant-loop-frame
invariant-loop-frame l = Puts (flat_map frame_item (take l.frame-index l.frames)) l.fn.at l.fn.out l.end l.out
