use Rattle.std.proofs.Common.{◌≡◌, map, take}
use Rattle.station_lines.specs.Points.{watched_output}
use Rattle.station_lines.proofs.points.watch_outputs.Given as goal

-- the outputs so far
abbrev pub invariant-loop-output : goal.invariant-loop-output
invariant-loop-output l = l.points.items ≡ map watched_output (take l.output-index l.outputs)
