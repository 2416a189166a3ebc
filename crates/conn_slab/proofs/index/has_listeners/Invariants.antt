use Rattle.std.proofs.Common.{◌≡◌}
use Rattle.std.specs.List.{list_any}
use Rattle.std.specs.Map.{values_of}
use Rattle.slab.specs.Slab.{get}
use Rattle.conn_slab.specs.Records.{listens_in}
use Rattle.conn_slab.proofs.index.has_listeners.Given as goal

abbrev pub invariant-loop-key : goal.invariant-loop-key
invariant-loop-key l = list_any (λ key. listens_in (get l.records key)) l.key-iterator ≡ list_any (λ key. listens_in (get l.records key)) (values_of l.by_triad.entries)
