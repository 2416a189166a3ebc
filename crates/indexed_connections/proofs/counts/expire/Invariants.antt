use Rattle.std.proofs.Common.{◌≡◌, drop}
use Rattle.adapter_table.specs.Sound.{TriadsDiffer}
use Rattle.app_rules.specs.Counts.{AreCounted}
use Rattle.indexed_connections.specs.CountChanges.{timed_out_each}
use Rattle.indexed_connections.proofs.counts.expire.Given as goal

abbrev pub invariant-loop-row : goal.invariant-loop-row
invariant-loop-row l = record {
  same : timed_out_each (drop l.row-index l.timed_out) l.connections ≡ timed_out_each l.timed_out l.initial.connections;
  differ : TriadsDiffer l.connections;
  counted : AreCounted l.rules l.connections;
}
