use Rattle.std.proofs.Common.{◌≡◌, drop}
use Rattle.adapter_table.specs.Sound.{TriadsDiffer}
use Rattle.app_rules.specs.Counts.{AreCounted}
use Rattle.indexed_connections.specs.List.Removals.{without_each}
use Rattle.indexed_connections.proofs.counts.close_each.Given as goal

abbrev pub invariant-loop-triad : goal.invariant-loop-triad
invariant-loop-triad l = record {
  same : without_each (drop l.triad-index l.triads) l.connections ≡ without_each l.triads l.initial.connections;
  differ : TriadsDiffer l.connections;
  counted : AreCounted l.rules l.connections;
}
