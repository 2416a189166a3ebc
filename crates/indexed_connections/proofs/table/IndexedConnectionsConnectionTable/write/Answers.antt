use Rattle.std.proofs.Common.{◌≤◌, ℕ, List, sym, subst, ap, ◌∙◌}
use Rattle.std.specs.List.{list_any}
use Rattle.conn_slab.specs.Connections.{is_listening, is_changing}
use Rattle.adapter_table.specs.Connections.{Row}
use Rattle.conn_slab.specs.Bounds.{next_watchdog, AllNotDueBefore}
use Rattle.app_rules.specs.Counts.{AreCounted}
use Rattle.indexed_connections.proofs.Cyclic.{changed_changing, rests_changed}
use Rattle.indexed_connections.proofs.Counted.{changed_counted, changed_listen}
use Rattle.indexed_connections.proofs.Times.{changed_ends}
use Rattle.indexed_connections.specs.ConsumerTables.{consumers_by_producer}
use Rattle.indexed_connections.proofs.ProducerConsumers.{changed_served}
use Rattle.indexed_connections.proofs.table.IndexedConnectionsConnectionTable.write.Goals as goal

pub next_due_after_write-self-inside-requires : goal.next_due_after_write-self-inside-requires
next_due_after_write-self-inside-requires c = λ off.
    let own = c.self.inside in
    subst (AllNotDueBefore own.next_production) (sym c.write.ensures) (rests_changed c.args.clock c.args.point own.next_production own.connections (c.self.invariant.cyclic off) c.self.invariant.bounded.rest)

pub invariant_of-self : goal.invariant_of-self
invariant_of-self c =
    let own = c.self.inside in
    record {
      bounded = record {
        last = subst (λ (rows : List Row). own.next_watchdog ≤ next_watchdog rows) (sym c.write.ensures) (subst (λ (n : ℕ). own.next_watchdog ≤ n) (sym (changed_ends c.args.clock c.args.point own.connections)) c.self.invariant.bounded.last);
        rest = c.next_due_after_write-self-inside.ensures;
      };
      counted = subst (AreCounted own.rules) (sym c.write.ensures) (changed_counted c.args.clock c.args.point own.rules own.connections c.self.invariant.counted);
      serving = λ holds. c.self.invariant.serving holds ∙ sym (ap consumers_by_producer c.write.ensures ∙ changed_served c.args.clock c.args.point own.connections);
      quiet = λ off. ap (list_any is_listening) c.write.ensures ∙ changed_listen c.args.clock c.args.point own.connections ∙ c.self.invariant.quiet off;
      cyclic = λ off. ap (list_any is_changing) c.write.ensures ∙ changed_changing c.args.clock c.args.point own.connections ∙ c.self.invariant.cyclic off;
    }
