use Rattle.std.proofs.Common.{◌≡◌}
use Rattle.station_lines.specs.Points.{watched_below}
use Rattle.station_lines.proofs.points.watch_slots.Given as goal

-- the images of the slots so far
abbrev pub invariant-loop-number : goal.invariant-loop-number
invariant-loop-number l = l.points.items ≡ watched_below l.slots l.number
