use Rattle.std.proofs.Common.{◌≡◌, ◌++◌, drop}
use Rattle.trace_faults.specs.ProfileFaults.Instances.{placed_inputs}
use Rattle.trace_faults.proofs.profile_faults.instances.push_inputs.Given as goal

-- those that are left go behind those so far
abbrev pub invariant-loop-index : goal.invariant-loop-index
invariant-loop-index l = l.points.items ++ placed_inputs l.index (drop l.index l.inputs) ≡ l.fn.points.items ++ placed_inputs 0 l.inputs
