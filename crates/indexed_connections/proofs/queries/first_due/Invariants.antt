use Rattle.std.proofs.Common.{◌≡◌, ◌≤◌, min}
use Rattle.cip_tables.specs.Wakes.{never, connections_due}
use Rattle.indexed_connections.proofs.queries.first_due.Given as goal

abbrev pub invariant-loop-row : goal.invariant-loop-row
invariant-loop-row l = record {
  same : min l.first (connections_due l.row-iterator) ≡ connections_due l.fn.rows;
  within : l.first ≤ never;
}
