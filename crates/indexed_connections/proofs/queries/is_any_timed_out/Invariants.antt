use Rattle.std.proofs.Common.{◌≡◌}
use Rattle.std.specs.List.{list_any}
use Rattle.adapter_table.specs.Rows.{is_timed_out}
use Rattle.indexed_connections.proofs.queries.is_any_timed_out.Given as goal

abbrev pub invariant-loop-row : goal.invariant-loop-row
invariant-loop-row l = list_any is_timed_out l.row-iterator ≡ list_any is_timed_out l.fn.rows
