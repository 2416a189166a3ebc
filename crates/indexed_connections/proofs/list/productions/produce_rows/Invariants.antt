use Rattle.adapter_table.specs.Productions.{produced_row}
use Rattle.cip_types.specs.Indices.{Mapped}
use Rattle.indexed_connections.proofs.list.productions.produce_rows.Given as goal

abbrev pub invariant-loop-row : goal.invariant-loop-row
invariant-loop-row l = Mapped (produced_row l.clock) l.initial.rows l.rows l.row-index
