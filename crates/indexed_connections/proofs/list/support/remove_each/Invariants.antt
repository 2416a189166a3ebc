use Rattle.std.proofs.Common.{◌≡◌, drop}
use Rattle.indexed_connections.specs.List.Removals.{without_each}
use Rattle.indexed_connections.proofs.list.support.remove_each.Given as goal

abbrev pub invariant-loop-triad : goal.invariant-loop-triad
invariant-loop-triad l = without_each (drop l.triad-index l.triads) l.rows.items ≡ without_each l.triads l.initial.rows.items
