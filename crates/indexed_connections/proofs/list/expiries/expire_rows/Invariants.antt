use Rattle.adapter_table.specs.Ticks.{expired_row}
use Rattle.cip_types.specs.Indices.{Mapped}
use Rattle.indexed_connections.proofs.list.expiries.expire_rows.Given as goal

abbrev pub invariant-loop-row : goal.invariant-loop-row
invariant-loop-row l = Mapped (expired_row l.clock) l.initial.rows l.rows l.row-index
