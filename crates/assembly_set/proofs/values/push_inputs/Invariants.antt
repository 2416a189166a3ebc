use Rattle.std.proofs.Common.{◌≡◌, ◌++◌, take, map}
use Rattle.adapter_table.specs.Points.{zeros}
use Rattle.assembly_set.proofs.values.push_inputs.Given as goal

abbrev pub invariant-loop-input : goal.invariant-loop-input
invariant-loop-input l = l.values.items ≡ l.fn.values.items ++ map zeros (take l.input-index l.inputs)
