use Rattle.std.proofs.Common.{◌≡◌, ◌≤◌, ◌+◌, length}
use Rattle.adapter_table.specs.Rows.{node_count}
use Rattle.indexed_connections.proofs.queries.node_count.Given as goal

abbrev pub invariant-loop-row : goal.invariant-loop-row
invariant-loop-row l = record {
  same : l.count + node_count l.row-iterator l.node ≡ node_count l.fn.rows l.node;
  few : l.count + length l.row-iterator ≤ 64;
}
