use Rattle.std.proofs.Common.{arith}
use Rattle.adapter_table.specs.Rows.{written_row}
use Rattle.cip_types.specs.Indices.{map_more}
use Rattle.indexed_connections.proofs.list.rows.write_rows.Goals as goal

pub loop-row-preserved : goal.loop-row-preserved
loop-row-preserved c = map_more (written_row c.args.point) c.args.rows.now c.loop-row.rows c.loop-row.row-index _ _ (omega arith) (omega arith) c.loop-row.invariant c.written_row.ensures
