use Rattle.std.proofs.Common.{arith}
use Rattle.indexed_connections.proofs.Prefixes.{first_ones}
use Rattle.indexed_connections.proofs.from_list.from_rows.Goals as goal

pub open-requires : goal.open-requires
open-requires c =
    rw c.loop-row.invariant (first_ones c.args.rows.now c.loop-row.row-index _ (omega arith) c.requires)
