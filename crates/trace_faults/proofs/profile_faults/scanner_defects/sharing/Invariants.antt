use Rattle.std.proofs.Common.{◌≡◌, false, take}
use Rattle.std.specs.List.{list_any}
use Rattle.scanner_table.specs.Profiles.{shares_group}
use Rattle.trace_faults.proofs.profile_faults.scanner_defects.sharing.Given as goal

-- none of the slots so far shares the group
abbrev pub invariant-loop-index : goal.invariant-loop-index
invariant-loop-index l = list_any (λ other. shares_group other l.slot) (take l.index l.slots) ≡ false
