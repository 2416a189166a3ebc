use Rattle.std.proofs.Common.{◌≡◌, ◌≤◌, ◌+◌, length}
use Rattle.adapter_table.specs.States.{count_consuming}
use Rattle.indexed_connections.proofs.queries.count_consuming.Given as goal

abbrev pub invariant-loop-row : goal.invariant-loop-row
invariant-loop-row l = record {
  same : l.count + count_consuming l.row-iterator l.kind l.point ≡ count_consuming l.fn.rows l.kind l.point;
  few : l.count + length l.row-iterator ≤ 64;
}
