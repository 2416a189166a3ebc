use Rattle.std.proofs.Common.{ap, ◌∙◌}
use Rattle.std.specs.List.{list_any}
use Rattle.adapter_table.specs.Productions.{produces_on_change}
use Rattle.mcast_pool.specs.Groups.{is_at_once}
use Rattle.conn_slab.specs.Index.{items_of}
use Rattle.conn_slab.proofs.DueProducers.{any_at_once}
use Rattle.conn_slab.proofs.connections.Connections.is_any_at_once.Goals as goal

pub returns : goal.returns
returns c =
    let own = c.self.inside in
    c.has_at_once.ensures
    ∙ ap (list_any (is_at_once c.args.clock c.args.point)) c.as_slice.ensures.groups
    ∙ any_at_once c.args.clock c.args.point own.pool (items_of own.records own.by_triad.entries) c.as_slice.ensures.sound c.self.invariant.balanced
    ∙ ap (list_any (produces_on_change c.args.clock c.args.point)) c.self.view_is
