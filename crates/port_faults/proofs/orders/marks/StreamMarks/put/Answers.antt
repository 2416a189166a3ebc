use Rattle.port_faults.proofs.OrderLemmas.{none_put}
use Rattle.port_faults.proofs.orders.marks.StreamMarks.put.Goals as goal

pub returns-then-index-len-clause-none : goal.returns-then-index-len-clause-none
returns-then-index-len-clause-none c =
    λ not none. none_put c.self.inside.marks.items c.from-index.result c.args.mark not (rw c.self.view_is none)
