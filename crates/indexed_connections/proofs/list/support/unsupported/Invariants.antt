use Rattle.std.proofs.Common.{◌≡◌, take, filter, map}
use Rattle.adapter_table.specs.Opening.{triad_of}
use Rattle.adapter_table.specs.Rows.{is_unsupported}
use Rattle.indexed_connections.proofs.list.support.unsupported.Given as goal

abbrev pub invariant-loop-row : goal.invariant-loop-row
invariant-loop-row l = l.triads.items ≡ map triad_of (filter (is_unsupported l.rows) (take l.row-index l.rows))
