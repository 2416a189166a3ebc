use Rattle.std.proofs.Common.{◌≡◌, ◌++◌, filter}
use Rattle.adapter_table.specs.Ticks.{has_expired}
use Rattle.indexed_connections.proofs.expiries.expired.Given as goal

abbrev pub invariant-loop-row : goal.invariant-loop-row
invariant-loop-row l = l.found.items ++ filter (has_expired l.clock) l.row-iterator ≡ filter (has_expired l.clock) l.fn.rows
