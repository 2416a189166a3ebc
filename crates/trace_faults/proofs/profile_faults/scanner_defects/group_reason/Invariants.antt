use Rattle.std.proofs.Common.{◌≡◌, true, take}
use Rattle.scanner_table.specs.Profiles.{are_apart}
use Rattle.trace_faults.proofs.profile_faults.scanner_defects.group_reason.Given as goal

-- the slots so far share no group
abbrev pub invariant-loop-index : goal.invariant-loop-index
invariant-loop-index l = are_apart (take l.index l.slots) ≡ true
