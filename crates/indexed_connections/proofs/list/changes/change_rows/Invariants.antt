use Rattle.adapter_table.specs.Productions.{changed_row}
use Rattle.cip_types.specs.Indices.{Mapped}
use Rattle.indexed_connections.proofs.list.changes.change_rows.Given as goal

abbrev pub invariant-loop-row : goal.invariant-loop-row
invariant-loop-row l = Mapped (changed_row l.clock l.point) l.initial.rows l.rows l.row-index
