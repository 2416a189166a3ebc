use Rattle.std.proofs.Common.{◌≡◌, false, List, map, sym, ap, subst, ◌∙◌, rules}
use Rattle.std.specs.List.{list_any}
use Rattle.cip_productions.specs.Productions.{sent}
use Rattle.adapter_table.specs.Connections.{Row}
use Rattle.adapter_table.specs.Opening.{triad_of}
use Rattle.adapter_table.specs.Closing.{unsupported, staying}
use Rattle.adapter_table.specs.Productions.{due_productions}
use Rattle.adapter_table.specs.Ticks.{expired, expired_rows}
use Rattle.conn_slab.specs.Connections.{is_listening}
use Rattle.indexed_connections.specs.Turns.{is_left}
use Rattle.indexed_connections.specs.Peers.{stays_with}
use Rattle.indexed_connections.proofs.Peers.{any_staying}
use Rattle.indexed_connections.proofs.Remaining.{all_supported, all_staying}
use Rattle.indexed_connections.proofs.table.IndexedConnectionsConnectionTable.tick_plan.Goals as goal

pub remaining_datagrams-requires-clause-alone : goal.remaining_datagrams-requires-clause-alone
remaining_datagrams-requires-clause-alone c =
    let own = c.self.inside.connections in
    let ends = c.deref.result.now in
    let none : list_any (is_left c.args.clock c.deref.result.now) c.self.inside.connections ≡ false =
    sym (any_staying c.args.clock ends own) ∙ ap (list_any (stays_with c.args.clock c.deref.result.now)) (sym c.peers.ensures) ∙ sym c.is_any_left.ensures ∙ c.if-is_any_left.false in
    subst (λ (l : List Row). list_any (is_left c.args.clock l) c.self.inside.connections ≡ false) (c.deref.ensures.value ∙ sym c.deref-2.ensures.value) none

pub returns : goal.returns
returns c =
    let own = c.self.inside.connections in
    let clock = c.args.clock in
    let off : c.self.inside.listening ≡ false = search rules in
    let none : list_any is_listening c.self.inside.connections ≡ false = c.self.invariant.quiet off in
    record {
      expired = c.in_ok-expired.ensures ∙ ap (expired c.args.clock) (c.rows.ensures.rows ∙ c.self.view_is);
      dropped = c.new.ensures.items ∙ sym (ap (map triad_of) (ap (λ (rows : List Row). unsupported (expired_rows c.args.clock rows)) (sym c.self.view_is) ∙ all_supported clock own none));
      datagrams =
          c.in_ok-datagrams.ensures
          ∙ ap (λ (rows : List Row). map sent (due_productions c.args.clock rows c.args.assemblies.now.values)) (sym (all_staying clock own none) ∙ ap (λ (rows : List Row). staying (expired_rows c.args.clock rows)) c.self.view_is);
    }
