use Rattle.std.proofs.Common.{◌≡◌, List, map, sym, subst, ap, ◌∙◌}
use Rattle.std.specs.List.{list_any}
use Rattle.cip_types.specs.declared.names.Ms.{Ms}
use Rattle.adapter_table.specs.Connections.{Row}
use Rattle.adapter_table.specs.Productions.{produced_row}
use Rattle.adapter_table.specs.Sound.{TriadsDiffer}
use Rattle.adapter_table.specs.Ticks.{expired, expired_rows}
use Rattle.conn_slab.specs.Connections.{is_listening, is_changing}
use Rattle.app_rules.specs.Counts.{AreCounted}
use Rattle.indexed_connections.specs.List.Removals.{without_each, without_unsupported, expired_differ}
use Rattle.indexed_connections.specs.List.Tables.{AreWhole}
use Rattle.indexed_connections.specs.List.Whole.{whole_triads}
use Rattle.indexed_connections.specs.CountChanges.{timed_out_each}
use Rattle.indexed_connections.proofs.Counted.{produced_counted, produced_listen}
use Rattle.indexed_connections.proofs.Cyclic.{produced_changing}
use Rattle.indexed_connections.proofs.Expiring.{expired_each}
use Rattle.indexed_connections.proofs.Times.{same_end}
use Rattle.indexed_connections.proofs.table.IndexedConnectionsConnectionTable.advance.Goals as goal

after : (clock : Ms) (own rows new ends : List Row) → own ≡ rows → AreWhole rows → new ≡ timed_out_each ends own → ends ≡ expired clock rows → new ≡ expired_rows clock rows
after clock own rows new ends same whole is are = is ∙ ap (timed_out_each ends) same ∙ expired_each clock ends rows (whole_triads rows whole) are

pub expire-requires : goal.expire-requires
expire-requires c = record {
  counted = c.self.invariant.counted;
  differ = rw c.self.view_is (whole_triads c.args.self.now c.requires.whole);
}

pub close_each-requires : goal.close_each-requires
close_each-requires c =
    let rows = c.args.self.now in
    record {
      counted = c.expire.ensures.counted;
      differ = subst TriadsDiffer (sym (after c.args.clock c.self.inside.connections rows c.expire.new.connections c.args.timed_out.now c.self.view_is c.requires.whole c.expire.ensures.rows c.requires.expired)) (expired_differ c.args.clock rows (whole_triads rows c.requires.whole));
    }

pub returns : goal.returns
returns c =
    let rows = c.args.self.now in
    c.produce.ensures
    ∙ ap (map (produced_row c.args.clock))
    (c.close_each.ensures.rows
    ∙ ap (without_each c.args.dropped.now) (after c.args.clock c.self.inside.connections rows c.expire.new.connections c.args.timed_out.now c.self.view_is c.requires.whole c.expire.ensures.rows c.requires.expired)
    ∙ without_unsupported (expired_rows c.args.clock rows) c.args.dropped.now (expired_differ c.args.clock rows (whole_triads rows c.requires.whole)) c.requires.dropped)

pub invariant_of-self : goal.invariant_of-self
invariant_of-self c = record {
  bounded = record { last = same_end c.next_watchdog-self-inside.ensures; rest = c.first_due-self-inside.ensures };
  counted = subst (AreCounted c.close_each.new.rules) (sym c.produce.ensures) (produced_counted c.args.clock c.close_each.new.rules c.close_each.new.connections c.close_each.ensures.counted);
  serving = λ holds. absurd cc;
  quiet = λ off. ap (list_any is_listening) c.produce.ensures ∙ produced_listen c.args.clock c.close_each.new.connections ∙ sym c.has_listeners-self-inside.ensures ∙ off;
  cyclic = λ off. ap (list_any is_changing) c.produce.ensures ∙ produced_changing c.args.clock c.close_each.new.connections ∙ sym c.has_changing-self-inside.ensures ∙ off;
}
