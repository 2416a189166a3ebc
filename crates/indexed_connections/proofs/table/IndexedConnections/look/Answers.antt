use Rattle.std.proofs.Common.{◌<◌, sym, ap, ◌∙◌, rules}
use Rattle.std.specs.List.{list_any}
use Rattle.adapter_table.specs.Ticks.{has_expired}
use Rattle.indexed_connections.specs.Peers.{has_run_out}
use Rattle.indexed_connections.proofs.Peers.{any_run_out}
use Rattle.indexed_connections.proofs.Times.{none_ends}
use Rattle.indexed_connections.proofs.table.IndexedConnections.look.Goals as goal

pub returns-then-clock-self-clause-expired : goal.returns-then-clock-self-clause-expired
returns-then-clock-self-clause-expired c =
    let early : c.args.clock.0 < c.self.inside.next_watchdog = search rules in
    rw (← c.self.view_is) (sym (none_ends c.self.inside.next_watchdog c.args.clock c.self.inside.connections early c.self.invariant.bounded.last))

pub returns-clause-expired : goal.returns-clause-expired
returns-clause-expired c =
    c.has_any_run_out.ensures ∙ ap (list_any (has_run_out c.args.clock)) c.peers.ensures
    ∙ any_run_out c.args.clock c.self.inside.connections ∙ ap (list_any (has_expired c.args.clock)) c.self.view_is
