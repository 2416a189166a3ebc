use Rattle.adapter_table.specs.Points.{zeroed_value}
use Rattle.cip_types.specs.Indices.{Mapped}
use Rattle.assembly_set.proofs.values.zero_point.Given as goal

abbrev pub invariant-loop-value : goal.invariant-loop-value
invariant-loop-value l = Mapped (zeroed_value l.point) l.initial.values l.values l.value-index
