use Rattle.std.proofs.Common.{◌≡◌, ◌≤◌, ◌+◌, length}
use Rattle.adapter_table.specs.Rows.{kind_count}
use Rattle.indexed_connections.proofs.queries.kind_count.Given as goal

abbrev pub invariant-loop-row : goal.invariant-loop-row
invariant-loop-row l = record {
  same : l.count + kind_count l.row-iterator l.kind ≡ kind_count l.fn.rows l.kind;
  few : l.count + length l.row-iterator ≤ 64;
}
