use Rattle.std.proofs.Common.{◌≡◌, ◌+◌, ◌≤◌, length}
use Rattle.station_record.specs.KeptFiles.Timestamps.{day_among, month_lens}
use Rattle.station_record.proofs.kept_files.timestamp.day_in.Given as goal

-- the months that are left have the day
abbrev pub invariant-loop-rest : goal.invariant-loop-rest
invariant-loop-rest l = (day_among l.fn.year 1 (month_lens l.fn.year) l.fn.days ≡ day_among l.fn.year l.month l.rest l.left) × (l.month + length l.rest ≤ 13)

abbrev pub decreases-loop-rest : goal.decreases-loop-rest
decreases-loop-rest l = length l.rest
