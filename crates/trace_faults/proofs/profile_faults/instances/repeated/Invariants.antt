use Rattle.std.proofs.Common.{◌≡◌, true, take}
use Rattle.trace_faults.specs.ProfileFaults.Instances.{differ}
use Rattle.trace_faults.proofs.profile_faults.instances.repeated.Given as goal

-- the instances so far differ
abbrev pub invariant-loop-index : goal.invariant-loop-index
invariant-loop-index l = differ (take l.index l.points) ≡ true
