use Rattle.std.proofs.Common.{◌≡◌, ◌++◌, string_bytes, flat_map, take}
use Rattle.trace_outcomes.specs.WrittenOutcomes.{frame_line}
use Rattle.trace_outcomes.proofs.written_outcomes.push_frames.Given as goal

abbrev pub invariant-loop-frame : goal.invariant-loop-frame
invariant-loop-frame l = string_bytes l.out ≡ string_bytes l.fn.out ++ flat_map (frame_line l.number) (take l.frame-index l.frames)
