use Rattle.std.proofs.Common.{arith}
use Rattle.adapter_table.specs.Ticks.{expired_row}
use Rattle.cip_types.specs.Indices.{map_more}
use Rattle.indexed_connections.proofs.list.expiries.expire_rows.Goals as goal

pub loop-row-preserved : goal.loop-row-preserved
loop-row-preserved c = map_more (expired_row c.args.clock) c.args.rows.now c.loop-row.rows c.loop-row.row-index _ _ (omega arith) (omega arith) c.loop-row.invariant c.expired_row.ensures
