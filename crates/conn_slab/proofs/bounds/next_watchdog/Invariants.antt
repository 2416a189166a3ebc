use Rattle.std.proofs.Common.{◌≡◌, ◌≤◌, min}
use Rattle.conn_slab.specs.Bounds.{never, next_end}
use Rattle.conn_slab.proofs.bounds.next_watchdog.Given as goal

abbrev pub invariant-loop-peer : goal.invariant-loop-peer
invariant-loop-peer l = record {
  same : min l.first (next_end l.peer-iterator) ≡ next_end l.fn.peers;
  within : l.first ≤ never;
}
