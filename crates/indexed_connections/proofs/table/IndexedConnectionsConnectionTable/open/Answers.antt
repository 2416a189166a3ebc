use Rattle.std.proofs.Common.{◌≡◌, ◌≤◌, ◌++◌, ◌∷◌, [], List, sym, ap, subst, ◌∙◌, arith}
use Rattle.adapter_table.specs.Connections.{Row}
use Rattle.adapter_table.specs.Rows.{others}
use Rattle.adapter_table.specs.Opening.{is_replaced, replaced_triad}
use Rattle.std.specs.List.{list_any}
use Rattle.conn_slab.specs.Connections.{AreConnections, without, is_listening, is_changing}
use Rattle.indexed_connections.proofs.Dropping.{none_opened}
use Rattle.conn_slab.specs.Bounds.{next_watchdog, AllNotDueBefore}
use Rattle.indexed_connections.specs.List.Replacing.{goes_by_triad}
use Rattle.indexed_connections.proofs.Times.{ends_opened, rests_opened}
use Rattle.indexed_connections.specs.List.Whole.{whole_triads, whole_rise}
use Rattle.indexed_connections.proofs.Whole.{whole_connections, same_left}
use Rattle.indexed_connections.proofs.table.IndexedConnectionsConnectionTable.open.Goals as goal

pub open-requires-clause-counted : goal.open-requires-clause-counted
open-requires-clause-counted c = c.self.invariant.counted

pub open-requires-clause-differ : goal.open-requires-clause-differ
open-requires-clause-differ c = rw c.self.view_is (whole_triads c.args.self.now c.requires.whole)

pub open-requires-clause-next : goal.open-requires-clause-next
open-requires-clause-next c =
    let rows = c.args.self.now in
    let goes = goes_by_triad c.args.row.triad rows (whole_rise rows c.requires.whole) (whole_triads rows c.requires.whole) ∙ sym (same_left (replaced_triad rows c.args.row.triad) rows) in
    rw (c.requires.replaced, c.self.view_is)
    (subst AreConnections (ap (λ (l : List Row). l ++ c.args.row ∷ []) goes) (whole_connections _ c.requires.next))

pub returns-clause-ok : goal.returns-clause-ok
returns-clause-ok c =
    let rows = c.args.self.now in
    let goes : without c.args.replaced c.self.inside.connections ≡ others (is_replaced rows c.args.row.triad) rows =
    rw (c.requires.replaced, c.self.view_is) (same_left (replaced_triad rows c.args.row.triad) rows ∙ sym (goes_by_triad c.args.row.triad rows (whole_rise rows c.requires.whole) (whole_triads rows c.requires.whole))) in
    c.in_ok-open.ensures.rows ∙ ap (λ (l : List Row). l ++ c.args.row ∷ []) goes

pub invariant_of-self-2 : goal.invariant_of-self-2
invariant_of-self-2 c =
    let own = c.self.inside in
    let low = c.min-self-inside.result in
    let was = c.self.invariant.bounded.last in
    let rest = c.min-self-inside-2.result in
    record {
      bounded = record {
        last = subst (λ (rows : List Row). low ≤ next_watchdog rows) (sym c.in_ok-open.ensures.rows) (ends_opened low c.args.replaced own.connections c.args.row (omega arith) (omega arith));
        rest = subst (AllNotDueBefore rest) (sym c.in_ok-open.ensures.rows) (rests_opened rest own.next_production c.due_of.result c.args.replaced own.connections c.args.row (omega arith) (omega arith) c.due_of.ensures c.self.invariant.bounded.rest);
      };
      counted = c.open.ensures.counted;
      serving = λ holds. absurd cc;
      quiet = λ off. ap (list_any is_listening) c.in_ok-open.ensures.rows ∙ none_opened is_listening own.listening c.listens_with-self-inside.result c.args.replaced own.connections c.args.row c.listens_with-self-inside.ensures c.self.invariant.quiet off;
      cyclic = λ off. ap (list_any is_changing) c.in_ok-open.ensures.rows ∙ none_opened is_changing own.changing c.changes_with-self-inside.result c.args.replaced own.connections c.args.row c.changes_with-self-inside.ensures c.self.invariant.cyclic off;
    }
