use Rattle.std.proofs.Common.{◌≡◌, drop}
use Rattle.adapter_table.specs.Points.{bytes_at}
use Rattle.assembly_set.proofs.values.find_value.Given as goal

abbrev pub invariant-loop-value : goal.invariant-loop-value
invariant-loop-value l = bytes_at (drop l.value-index l.values) l.point ≡ bytes_at l.values l.point
