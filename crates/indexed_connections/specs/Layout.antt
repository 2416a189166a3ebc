-- The invariant of `IndexedConnections`. No public clause cites this module.
use Rattle.std.specs.Prelude.{ℕ, ◌≡◌, ◌≤◌, Bool, true, false, List}
use Rattle.std.specs.List.{list_any}
use Rattle.adapter_table.specs.Connections.{Row}
use Rattle.conn_slab.specs.Bounds.{next_watchdog, AllNotDueBefore}
use Rattle.conn_slab.specs.Connections.{is_listening, is_changing}
use Rattle.app_rules.specs.Counts.{Counts, AreCounted}
use Rattle.indexed_connections.specs.ConsumerTables.{ProducerConsumers, consumers_by_producer}

-- bounds on the times of connections: no watchdog runs out before the one, and no producer is due before the other
pub record IsBounded (rows : List Row) (watchdog next_production : ℕ) : Type 0 where
  pub last : watchdog ≤ next_watchdog rows
  pub rest : AllNotDueBefore next_production rows

-- connections with their counts and bounds, whether there may be listen-only ones and producers of changes of state
-- among them, and the consumers of their producers, if they are valid
pub record AreConsistent (rows : List Row) (counts : Counts) (listening changing : Bool) (next_watchdog next_production : ℕ) (consumers_valid : Bool) (consumer_table : List ProducerConsumers) : Type 0 where
  pub bounded : IsBounded rows next_watchdog next_production
  pub counted : AreCounted counts rows
  pub serving : consumers_valid ≡ true → consumer_table ≡ consumers_by_producer rows
  pub quiet : listening ≡ false → list_any is_listening rows ≡ false
  pub cyclic : changing ≡ false → list_any is_changing rows ≡ false
