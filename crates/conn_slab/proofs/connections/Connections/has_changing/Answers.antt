use Rattle.std.proofs.Common.{ap, ◌∙◌}
use Rattle.std.specs.List.{list_any}
use Rattle.conn_slab.specs.Connections.{is_changing}
use Rattle.conn_slab.specs.Producing.{group_changes}
use Rattle.conn_slab.specs.Index.{items_of}
use Rattle.conn_slab.proofs.DueProducers.{any_changing}
use Rattle.conn_slab.proofs.connections.Connections.has_changing.Goals as goal

pub returns : goal.returns
returns c =
    let own = c.self.inside in
    c.has_changing.ensures
    ∙ ap (list_any group_changes) c.as_slice.ensures.groups
    ∙ any_changing own.pool (items_of own.records own.by_triad.entries) c.as_slice.ensures.sound c.self.invariant.balanced
    ∙ ap (list_any is_changing) c.self.view_is
