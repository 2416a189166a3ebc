use Rattle.std.proofs.Common.{◌≡◌, find}
use Rattle.adapter_table.specs.Rows.{is_member}
use Rattle.indexed_connections.proofs.queries.first_member.Given as goal

abbrev pub invariant-loop-row : goal.invariant-loop-row
invariant-loop-row l = find (is_member l.point) l.row-iterator ≡ find (is_member l.point) l.fn.rows
