use Rattle.std.proofs.Common.{◌≡◌, flat_map, length, take}
use Rattle.flat_answers.specs.Flat.{frame_item}
use Rattle.flat_answers.specs.Places.{counted}
use Rattle.flat_answers.proofs.length.frames_len.Given as goal

abbrev pub invariant-loop-frame : goal.invariant-loop-frame
invariant-loop-frame l = l.len ≡ counted (length (flat_map frame_item (take l.frame-index l.frames)))
