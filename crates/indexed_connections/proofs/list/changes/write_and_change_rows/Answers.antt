use Rattle.adapter_table.specs.RowLimits.{written_rows_fit}
use Rattle.indexed_connections.proofs.list.changes.write_and_change_rows.Goals as goal

pub change_rows-requires-clause-fit : goal.change_rows-requires-clause-fit
change_rows-requires-clause-fit c = rw c.write_rows.ensures (written_rows_fit c.args.point c.args.rows.now c.requires.fit)
