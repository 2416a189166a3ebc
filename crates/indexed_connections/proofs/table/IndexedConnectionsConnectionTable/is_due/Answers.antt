use Rattle.std.proofs.Common.{◌<◌, sym, rules}
use Rattle.indexed_connections.proofs.Times.{none_due}
use Rattle.indexed_connections.proofs.table.IndexedConnectionsConnectionTable.is_due.Goals as goal

pub returns-then-clock-self : goal.returns-then-clock-self
returns-then-clock-self c =
    let early : c.args.clock.0 < c.self.inside.next_production = search rules in
    rw (← c.self.view_is) (sym (none_due c.self.inside.next_production c.args.clock c.self.inside.connections early c.self.invariant.bounded.rest))
