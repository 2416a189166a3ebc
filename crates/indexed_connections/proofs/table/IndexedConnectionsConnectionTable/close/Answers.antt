use Rattle.std.proofs.Common.{◌≡◌, ◌≤◌, List, not, sym, subst, ◌∙◌, ap}
use Rattle.adapter_table.specs.Rows.{has_triad}
use Rattle.adapter_table.specs.Sound.{TriadsDiffer}
use Rattle.adapter_table.specs.Connections.{Row}
use Rattle.adapter_table.specs.Closing.{stays, staying, without_triad}
use Rattle.std.specs.List.{list_any}
use Rattle.conn_slab.specs.Connections.{is_listening, is_changing}
use Rattle.indexed_connections.proofs.Dropping.{none_staying}
use Rattle.conn_slab.specs.Bounds.{next_watchdog, AllNotDueBefore}
use Rattle.cip_types.specs.declared.names.Triad.{Triad}
use Rattle.adapter_table.specs.Lemmas.SoundLemmas.{triads_filter}
use Rattle.indexed_connections.specs.List.Removals.{without_each, without_unsupported}
use Rattle.indexed_connections.specs.List.Tables.{AreWhole}
use Rattle.indexed_connections.proofs.Times.{ends_left, rests_left}
use Rattle.indexed_connections.specs.List.Whole.{whole_triads}
use Rattle.indexed_connections.proofs.table.IndexedConnectionsConnectionTable.close.Goals as goal

pub close-requires : goal.close-requires
close-requires c = record {
  counted = c.self.invariant.counted;
  differ = rw c.self.view_is (whole_triads c.args.self.now c.requires.whole);
}

left : (rows : List Row) (triad : Triad) → AreWhole rows → TriadsDiffer (without_triad triad rows)
left rows triad whole = triads_filter (λ row. not (has_triad triad row)) rows (whole_triads rows whole)

pub close_each-requires : goal.close_each-requires
close_each-requires c = record {
  counted = c.close.ensures.counted;
  differ = rw (c.close.ensures.rows, c.self.view_is) (left c.args.self.now c.args.triad c.requires.whole);
}

pub returns : goal.returns
returns c =
    c.close_each.ensures.rows
    ∙ ap (without_each c.args.dropped.now) (c.close.ensures.rows ∙ ap (without_triad c.args.triad) c.self.view_is)
    ∙ without_unsupported (without_triad c.args.triad c.args.self.now) c.args.dropped.now (left c.args.self.now c.args.triad c.requires.whole) c.requires.dropped

pub invariant_of-self : goal.invariant_of-self
invariant_of-self c =
    let own = c.self.inside in
    let rest = without_triad c.args.triad own.connections in
    let differ : TriadsDiffer rest = rw c.self.view_is (left c.args.self.now c.args.triad c.requires.whole) in
    let is : c.close_each.new.connections ≡ staying rest =
    c.close_each.ensures.rows ∙ ap (without_each c.args.dropped.now) c.close.ensures.rows ∙ without_unsupported rest c.args.dropped.now differ (rw c.self.view_is c.requires.dropped) in
    record {
      bounded = record {
        last = subst (λ (rows : List Row). own.next_watchdog ≤ next_watchdog rows) (sym is)
            (ends_left own.next_watchdog (stays rest) rest (ends_left own.next_watchdog (λ row. not (has_triad c.args.triad row)) own.connections c.self.invariant.bounded.last));
        rest = subst (AllNotDueBefore own.next_production) (sym is)
            (rests_left own.next_production (stays rest) rest (rests_left own.next_production (λ row. not (has_triad c.args.triad row)) own.connections c.self.invariant.bounded.rest));
      };
      counted = c.close_each.ensures.counted;
      serving = λ holds. absurd cc;
      quiet = λ off. ap (list_any is_listening) is ∙ none_staying is_listening c.args.triad own.connections (c.self.invariant.quiet off);
      cyclic = λ off. ap (list_any is_changing) is ∙ none_staying is_changing c.args.triad own.connections (c.self.invariant.cyclic off);
    }
