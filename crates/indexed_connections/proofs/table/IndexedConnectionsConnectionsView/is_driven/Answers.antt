use Rattle.std.proofs.Common.{◌∙◌, ap}
use Rattle.std.specs.List.{list_any}
use Rattle.adapter_table.specs.Rows.{drives}
use Rattle.indexed_connections.proofs.Removals.{any_counted}
use Rattle.indexed_connections.proofs.table.IndexedConnectionsConnectionsView.is_driven.Goals as goal

pub returns : goal.returns
returns c = any_counted (drives c.args.point) c.self.inside.connections c.owners.result (c.owners.ensures ∙ c.self.invariant.counted.owners c.args.point) ∙ ap (list_any (drives c.args.point)) c.self.view_is
