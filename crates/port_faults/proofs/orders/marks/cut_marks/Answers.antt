use Rattle.std.proofs.Common.{arith}
use Rattle.cip_types.specs.Indices.{map_more}
use Rattle.port_faults.specs.Orders.Marks.{cut_mark}
use Rattle.port_faults.proofs.orders.marks.cut_marks.Goals as goal

pub loop-mark-preserved : goal.loop-mark-preserved
loop-mark-preserved c = map_more cut_mark c.args.marks.now c.loop-mark.marks c.loop-mark.mark-index _ _ (omega arith) (omega arith) c.loop-mark.invariant c.cut_mark.ensures
