use Rattle.std.proofs.Common.{◌≡◌, find}
use Rattle.adapter_table.specs.Rows.{is_timed_out}
use Rattle.indexed_connections.proofs.queries.first_timed_out.Given as goal

abbrev pub invariant-loop-row : goal.invariant-loop-row
invariant-loop-row l = find is_timed_out l.row-iterator ≡ find is_timed_out l.fn.rows
