use Rattle.cip_types.specs.Indices.{Mapped}
use Rattle.port_faults.specs.Orders.Marks.{cut_mark}
use Rattle.port_faults.proofs.orders.marks.cut_marks.Given as goal

abbrev pub invariant-loop-mark : goal.invariant-loop-mark
invariant-loop-mark l = Mapped cut_mark l.initial.marks l.marks l.mark-index
