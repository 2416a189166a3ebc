use Rattle.std.proofs.Common.{sym, ◌∙◌}
use Rattle.conn_slab.proofs.Producing.{reported_by_pool}
use Rattle.conn_slab.specs.Index.{items_of}
use Rattle.conn_slab.proofs.connections.Connections.producer_with_hint.Goals as goal

pub producer_with_hint-requires : goal.producer_with_hint-requires
producer_with_hint-requires c =
    let own = c.self.inside in
    (reported_by_pool c.args.number own.pool (items_of own.records own.by_triad.entries) c.self.invariant.balanced.served (rw c.self.view_is c.requires)).1

pub returns : goal.returns
returns c =
    let own = c.self.inside in
    let reported = reported_by_pool c.args.number own.pool (items_of own.records own.by_triad.entries) c.self.invariant.balanced.served (rw c.self.view_is c.requires) in
    rw (← c.self.view_is) (c.producer_with_hint.ensures ∙ sym reported.0)
