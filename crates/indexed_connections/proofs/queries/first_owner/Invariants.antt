use Rattle.std.proofs.Common.{◌≡◌, find}
use Rattle.adapter_table.specs.Rows.{drives}
use Rattle.indexed_connections.proofs.queries.first_owner.Given as goal

abbrev pub invariant-loop-row : goal.invariant-loop-row
invariant-loop-row l = find (drives l.point) l.row-iterator ≡ find (drives l.point) l.fn.rows
