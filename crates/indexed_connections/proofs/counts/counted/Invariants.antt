use Rattle.std.proofs.Common.{take}
use Rattle.app_rules.specs.Counts.{AreCounted}
use Rattle.indexed_connections.proofs.counts.counted.Given as goal

abbrev pub invariant-loop-row : goal.invariant-loop-row
invariant-loop-row l = AreCounted l.rules (take l.row-index l.rows)
