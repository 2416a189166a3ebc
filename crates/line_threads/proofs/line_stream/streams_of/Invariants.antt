use Rattle.std.proofs.Common.{◌≡◌, take}
use Rattle.line_threads.proofs.line_stream.streams_of.Given as goal

abbrev pub invariant-loop-place : goal.invariant-loop-place
invariant-loop-place l = l.streams.items ≡ take l.place l.openings
