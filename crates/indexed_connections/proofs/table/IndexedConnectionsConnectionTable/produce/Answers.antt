use Rattle.std.proofs.Common.{◌≤◌, ℕ, List, sym, subst, ap, ◌∙◌}
use Rattle.std.specs.List.{list_any}
use Rattle.conn_slab.specs.Connections.{is_listening, is_changing}
use Rattle.adapter_table.specs.Connections.{Row}
use Rattle.conn_slab.specs.Bounds.{next_watchdog}
use Rattle.app_rules.specs.Counts.{AreCounted}
use Rattle.indexed_connections.proofs.Cyclic.{produced_changing}
use Rattle.indexed_connections.proofs.Counted.{produced_counted, produced_listen}
use Rattle.indexed_connections.proofs.Times.{produced_ends}
use Rattle.indexed_connections.specs.ConsumerTables.{consumers_by_producer}
use Rattle.indexed_connections.proofs.ProducerConsumers.{produced_served}
use Rattle.indexed_connections.proofs.table.IndexedConnectionsConnectionTable.produce.Goals as goal

pub invariant_of-self : goal.invariant_of-self
invariant_of-self c =
    let own = c.self.inside in
    record {
      bounded = record {
        last = subst (λ (rows : List Row). own.next_watchdog ≤ next_watchdog rows) (sym c.produce.ensures) (subst (λ (n : ℕ). own.next_watchdog ≤ n) (sym (produced_ends c.args.clock own.connections)) c.self.invariant.bounded.last);
        rest = c.first_due-self-inside.ensures;
      };
      counted = subst (AreCounted own.rules) (sym c.produce.ensures) (produced_counted c.args.clock own.rules own.connections c.self.invariant.counted);
      serving = λ holds. c.self.invariant.serving holds ∙ sym (ap consumers_by_producer c.produce.ensures ∙ produced_served c.args.clock own.connections);
      quiet = λ off. ap (list_any is_listening) c.produce.ensures ∙ produced_listen c.args.clock own.connections ∙ c.self.invariant.quiet off;
      cyclic = λ off. ap (list_any is_changing) c.produce.ensures ∙ produced_changing c.args.clock own.connections ∙ c.self.invariant.cyclic off;
    }
