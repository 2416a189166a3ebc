use Rattle.std.proofs.Common.{◌≡◌, drop}
use Rattle.cip_tables.specs.Wakes.{connections_due}
use Rattle.indexed_connections.proofs.list.first_due.first_due.Given as goal

abbrev pub invariant-loop-at : goal.invariant-loop-at
invariant-loop-at l = l.first ≡ connections_due (drop l.at l.rows)
