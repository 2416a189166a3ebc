use Rattle.std.proofs.Common.{◌≡◌, true, take}
use Rattle.std.specs.List.{list_all}
use Rattle.scanner_table.specs.Profiles.{listens_to_group}
use Rattle.trace_faults.proofs.profile_faults.scanner_defects.listener_alone.Given as goal

-- the slots so far pass
abbrev pub invariant-loop-index : goal.invariant-loop-index
invariant-loop-index l = list_all listens_to_group (take l.index l.slots) ≡ true
