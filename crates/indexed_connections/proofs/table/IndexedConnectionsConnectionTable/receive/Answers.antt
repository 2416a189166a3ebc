use Rattle.std.specs.List.{list_any}
use Rattle.conn_slab.specs.Connections.{is_listening, is_changing}
use Rattle.std.proofs.Common.{◌≤◌, List, find, sym, subst, ◌∙◌, arith, ap}
use Rattle.cip_datagram.specs.Datagram.{view_datagram}
use Rattle.adapter_table.specs.Connections.{Row}
use Rattle.adapter_table.specs.Datagrams.{is_for}
use Rattle.conn_slab.specs.Reception.{IsReceived}
use Rattle.adapter_table.specs.Sound.{IdsDiffer}
use Rattle.conn_slab.specs.Bounds.{next_watchdog, AllNotDueBefore}
use Rattle.app_rules.specs.Counts.{AreCounted}
use Rattle.indexed_connections.proofs.Counted.{received_counted, received_listen}
use Rattle.indexed_connections.proofs.Times.{ends_received, rests_received}
use Rattle.indexed_connections.proofs.Cyclic.{received_changing}
use Rattle.indexed_connections.proofs.Whole.{whole_ids}
use Rattle.indexed_connections.specs.ConsumerTables.{consumers_by_producer}
use Rattle.indexed_connections.proofs.ProducerConsumers.{received_served}
use Rattle.indexed_connections.proofs.table.IndexedConnectionsConnectionTable.receive.Goals as goal

pub invariant_of-self-2 : goal.invariant_of-self-2
invariant_of-self-2 c =
    let own = c.self.inside in
    let d = view_datagram c.args.datagram.now in
    let low = c.min-self-inside.result in
    let differ : IdsDiffer own.connections = rw c.self.view_is (whole_ids c.args.self.now c.requires.whole) in
    record {
      bounded = record {
        last = subst (λ (rows : List Row). low ≤ next_watchdog rows) (sym c.receive.ensures.rows)
            (ends_received c.args.profile.now c.args.clock c.args.peer d low own.next_watchdog own.connections c.in_ok-received.received differ (subst (IsReceived c.args.profile.now c.args.clock d (find (is_for c.args.peer d.connection) own.connections)) c.in_ok-received.was c.receive.ensures.received) (omega arith) (omega arith) c.self.invariant.bounded.last);
        rest = subst (AllNotDueBefore own.next_production) (sym c.receive.ensures.rows) (rests_received c.args.profile.now c.args.clock c.args.peer d own.next_production own.connections c.self.invariant.bounded.rest);
      };
      counted = subst (AreCounted own.rules) (sym c.receive.ensures.rows) (received_counted c.args.profile.now c.args.clock c.args.peer d own.rules own.connections c.self.invariant.counted);
      serving = λ holds. c.self.invariant.serving holds ∙ sym (ap consumers_by_producer c.receive.ensures.rows ∙ received_served c.args.profile.now c.args.clock c.args.peer d own.connections);
      quiet = λ off. ap (list_any is_listening) c.receive.ensures.rows ∙ received_listen c.args.profile.now c.args.clock c.args.peer d own.connections ∙ c.self.invariant.quiet off;
      cyclic = λ off. ap (list_any is_changing) c.receive.ensures.rows ∙ received_changing c.args.profile.now c.args.clock c.args.peer d own.connections ∙ c.self.invariant.cyclic off;
    }
