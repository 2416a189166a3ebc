use Rattle.std.proofs.Common.{◌≡◌, ◌++◌, drop}
use Rattle.trace_faults.specs.ProfileFaults.Instances.{placed_outputs}
use Rattle.trace_faults.proofs.profile_faults.instances.push_outputs.Given as goal

-- those that are left go behind those so far
abbrev pub invariant-loop-index : goal.invariant-loop-index
invariant-loop-index l = l.points.items ++ placed_outputs l.index (drop l.index l.outputs) ≡ l.fn.points.items ++ placed_outputs 0 l.outputs
