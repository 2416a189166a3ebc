use Rattle.std.proofs.Common.{arith}
use Rattle.adapter_table.specs.Points.{zeroed_value}
use Rattle.cip_types.specs.Indices.{map_more}
use Rattle.assembly_set.proofs.values.zero_point.Goals as goal

pub loop-value-preserved : goal.loop-value-preserved
loop-value-preserved c = map_more (zeroed_value c.args.point) c.args.values.now c.loop-value.values c.loop-value.value-index _ _ (omega arith) (omega arith) c.loop-value.invariant c.zero_value.ensures
