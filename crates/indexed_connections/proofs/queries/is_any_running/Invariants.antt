use Rattle.std.proofs.Common.{◌≡◌}
use Rattle.std.specs.List.{list_any}
use Rattle.adapter_table.specs.Objects.{is_running}
use Rattle.indexed_connections.proofs.queries.is_any_running.Given as goal

abbrev pub invariant-loop-row : goal.invariant-loop-row
invariant-loop-row l = list_any is_running l.row-iterator ≡ list_any is_running l.fn.rows
