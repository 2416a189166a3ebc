use Rattle.std.proofs.Common.{◌≡◌, take}
use Rattle.indexed_connections.proofs.from_list.from_rows.Given as goal

abbrev pub invariant-loop-row : goal.invariant-loop-row
invariant-loop-row l = l.connections ≡ take l.row-index l.rows
