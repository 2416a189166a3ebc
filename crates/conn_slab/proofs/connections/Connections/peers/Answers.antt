use Rattle.std.proofs.Common.{◌∙◌, ap, map}
use Rattle.std.specs.List.{filter_map}
use Rattle.slab.specs.Slab.{get}
use Rattle.conn_slab.specs.Index.{items_of}
use Rattle.conn_slab.specs.Producing.{peer_by, peer_in}
use Rattle.conn_slab.proofs.Members.{peers_are}
use Rattle.conn_slab.proofs.Walk.{values_items, all_stored}
use Rattle.conn_slab.proofs.connections.Connections.peers.Goals as goal

pub invariant_of-result : goal.invariant_of-result
invariant_of-result c = rw c.values.ensures.rest (all_stored c.self.inside.records c.self.inside.by_triad.entries c.self.inside.by_source.entries c.self.inside.pool c.self.invariant)

pub returns : goal.returns
returns c =
    let own = c.self.inside in
    ap (map peer_by) (ap (filter_map (get own.records)) c.values.ensures.rest ∙ values_items own.records own.by_triad.entries)
    ∙ peers_are own.pool (items_of own.records own.by_triad.entries) c.self.invariant.balanced.served
    ∙ ap (map peer_in) c.self.view_is
