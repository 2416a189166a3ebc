use Rattle.std.proofs.Common.{◌≡◌, find}
use Rattle.conn_slab.specs.Connections.{is_opened_at}
use Rattle.conn_slab.proofs.connections.Connections.numbered.Given as goal

abbrev pub invariant-loop-row : goal.invariant-loop-row
invariant-loop-row l = find (is_opened_at l.opening) l.row-iterator ≡ find (is_opened_at l.opening) l.self
