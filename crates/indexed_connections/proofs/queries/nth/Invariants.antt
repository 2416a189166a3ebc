use Rattle.std.proofs.Common.{◌≡◌, slice_get}
use Rattle.indexed_connections.proofs.queries.nth.Given as goal

abbrev pub invariant-loop-row : goal.invariant-loop-row
invariant-loop-row l = slice_get l.row-iterator l.before ≡ slice_get l.fn.rows l.fn.place
