use Rattle.adapter_table.specs.Rows.{written_row}
use Rattle.cip_types.specs.Indices.{Mapped}
use Rattle.indexed_connections.proofs.list.rows.write_rows.Given as goal

abbrev pub invariant-loop-row : goal.invariant-loop-row
invariant-loop-row l = Mapped (written_row l.point) l.initial.rows l.rows l.row-index
