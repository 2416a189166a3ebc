use Rattle.std.proofs.Common.{◌≡◌, ◌++◌}
use Rattle.conn_slab.proofs.connections.Connections.to_vec.Given as goal

abbrev pub invariant-loop-row : goal.invariant-loop-row
invariant-loop-row l = l.rows.items ++ l.row-iterator ≡ l.self
