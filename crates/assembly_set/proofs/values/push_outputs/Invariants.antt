use Rattle.std.proofs.Common.{◌≡◌, ◌++◌, take, map}
use Rattle.adapter_table.specs.Profiles.{as_point}
use Rattle.adapter_table.specs.Points.{zeros}
use Rattle.assembly_set.proofs.values.push_outputs.Given as goal

abbrev pub invariant-loop-output : goal.invariant-loop-output
invariant-loop-output l = l.values.items ≡ l.fn.values.items ++ map zeros (map as_point (take l.output-index l.outputs))
