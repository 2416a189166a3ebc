use Rattle.std.proofs.Common.{◌≡◌, ◌-◌, ◌≤◌}
use Rattle.station_record.specs.KeptFiles.Timestamps.{day_of, day_within}
use Rattle.station_record.proofs.kept_files.timestamp.day_of.Given as goal

-- the years that are left have the day
abbrev pub invariant-loop-year : goal.invariant-loop-year
invariant-loop-year l = (day_of l.fn.days ≡ day_within (10000 - l.year) l.year l.left) × (l.year ≤ 10000)

abbrev pub decreases-loop-year : goal.decreases-loop-year
decreases-loop-year l = 10000 - l.year
