use Rattle.std.proofs.Common.{◌≡◌, map, take}
use Rattle.record_settling.specs.StreamNames.Names.{named_sent}
use Rattle.record_settling.proofs.stream_names.renaming.named_frames.Given as goal

abbrev pub invariant-loop-frame : goal.invariant-loop-frame
invariant-loop-frame l = l.out.items ≡ map (named_sent l.names) (take l.frame-index l.frames)
