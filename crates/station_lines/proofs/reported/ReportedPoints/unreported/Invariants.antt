use Rattle.std.proofs.Common.{◌≡◌, replicate, None}
use Rattle.station_lines.proofs.reported.ReportedPoints.unreported.Given as goal

-- nothing is told of the points so far
abbrev pub invariant-loop-place : goal.invariant-loop-place
invariant-loop-place l = l.reported.items ≡ replicate l.place None
