use Rattle.std.proofs.Common.{◌≡◌, true, take}
use Rattle.std.specs.List.{list_all}
use Rattle.scanner_table.specs.Profiles.{has_lengths}
use Rattle.trace_faults.proofs.profile_faults.scanner_defects.length_reason.Given as goal

-- the slots so far pass
abbrev pub invariant-loop-index : goal.invariant-loop-index
invariant-loop-index l = list_all has_lengths (take l.index l.slots) ≡ true
