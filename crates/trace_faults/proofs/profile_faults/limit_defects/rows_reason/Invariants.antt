use Rattle.std.proofs.Common.{◌≡◌, true, take}
use Rattle.std.specs.List.{list_all}
use Rattle.trace_lines.specs.Limits.{is_good, stated_line}
use Rattle.trace_faults.proofs.profile_faults.limit_defects.rows_reason.Given as goal

-- the limits so far are good
abbrev pub invariant-loop-row : goal.invariant-loop-row
invariant-loop-row l = list_all (λ row. is_good (stated_line l.profile.limits row)) (take l.row-index l.rows) ≡ true
