use Rattle.std.proofs.Common.{◌≡◌}
use Rattle.std.specs.List.{list_any}
use Rattle.adapter_table.specs.Rows.{is_established}
use Rattle.indexed_connections.proofs.queries.is_any_established.Given as goal

abbrev pub invariant-loop-row : goal.invariant-loop-row
invariant-loop-row l = list_any is_established l.row-iterator ≡ list_any is_established l.fn.rows
