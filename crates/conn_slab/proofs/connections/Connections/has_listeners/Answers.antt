use Rattle.std.proofs.Common.{◌∙◌, ap}
use Rattle.std.specs.List.{list_any}
use Rattle.conn_slab.specs.Connections.{is_listening}
use Rattle.conn_slab.proofs.Listening.{some_listen}
use Rattle.conn_slab.proofs.connections.Connections.has_listeners.Goals as goal

pub returns : goal.returns
returns c =
    let own = c.self.inside in
    c.has_listeners.ensures ∙ some_listen own.records own.by_triad.entries own.pool ∙ ap (list_any is_listening) c.self.view_is
