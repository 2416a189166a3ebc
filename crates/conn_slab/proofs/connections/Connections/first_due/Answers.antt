use Rattle.conn_slab.proofs.DueBounds.{rows_rest}
use Rattle.conn_slab.specs.Index.{items_of}
use Rattle.conn_slab.proofs.connections.Connections.first_due.Goals as goal

pub returns : goal.returns
returns c =
    let own = c.self.inside in
    rw (← c.self.view_is, c.first_due.ensures) (rows_rest own.pool (items_of own.records own.by_triad.entries) c.self.invariant.balanced.served)
