use Rattle.std.proofs.Common.{arith}
use Rattle.adapter_table.specs.Productions.{changed_row}
use Rattle.cip_types.specs.Indices.{map_more}
use Rattle.indexed_connections.proofs.Orders.{fits_at}
use Rattle.indexed_connections.proofs.list.changes.change_rows.Goals as goal

pub changed_row-requires-clause-due : goal.changed_row-requires-clause-due
changed_row-requires-clause-due c = (fits_at (changed_row c.args.clock c.args.point) c.args.rows.now c.loop-row.rows c.loop-row.row-index _ c.requires.fit (omega arith) (omega arith) c.loop-row.invariant).due

pub loop-row-preserved : goal.loop-row-preserved
loop-row-preserved c = map_more (changed_row c.args.clock c.args.point) c.args.rows.now c.loop-row.rows c.loop-row.row-index _ _ (omega arith) (omega arith) c.loop-row.invariant c.changed_row.ensures
