use Rattle.std.proofs.Common.{◌<◌, sym, rules}
use Rattle.indexed_connections.proofs.Times.{none_ends}
use Rattle.indexed_connections.proofs.table.IndexedConnectionsConnectionTable.has_expired.Goals as goal

pub returns-then-clock-self-2-clause-expired : goal.returns-then-clock-self-2-clause-expired
returns-then-clock-self-2-clause-expired c =
    let early : c.args.clock.0 < c.self.inside.next_watchdog = search rules in
    rw (← c.self.view_is) (sym (none_ends c.self.inside.next_watchdog c.args.clock c.self.inside.connections early c.self.invariant.bounded.last))
