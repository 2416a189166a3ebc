use Rattle.std.proofs.Common.{◌≡◌, true, take}
use Rattle.std.specs.List.{list_all}
use Rattle.adapter_table.specs.Profiles.{has_input_len}
use Rattle.trace_faults.proofs.profile_faults.adapter_defects.input_reason.Given as goal

-- those so far have a length that is allowed
abbrev pub invariant-loop-index : goal.invariant-loop-index
invariant-loop-index l = list_all has_input_len (take l.index l.inputs) ≡ true
