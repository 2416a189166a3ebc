use Rattle.std.proofs.Common.{ap, ◌∙◌}
use Rattle.std.specs.List.{list_any}
use Rattle.adapter_table.specs.Productions as rows
use Rattle.mcast_pool.specs.Groups.{is_due}
use Rattle.conn_slab.specs.Index.{items_of}
use Rattle.conn_slab.proofs.DueProducers.{any_due}
use Rattle.conn_slab.proofs.connections.Connections.is_any_due.Goals as goal

pub returns : goal.returns
returns c =
    let own = c.self.inside in
    c.has_due.ensures
    ∙ ap (list_any (is_due c.args.clock)) c.as_slice.ensures.groups
    ∙ any_due c.args.clock own.pool (items_of own.records own.by_triad.entries) c.as_slice.ensures.sound c.self.invariant.balanced
    ∙ ap (list_any (rows.is_due c.args.clock)) c.self.view_is
