use Rattle.std.proofs.Common.{◌∙◌, ap}
use Rattle.std.specs.List.{list_any}
use Rattle.cip_productions.specs.declared.kind.Kind.TheVariants.{ListenOnly}
use Rattle.adapter_table.specs.Rows.{supports}
use Rattle.indexed_connections.proofs.Removals.{any_counted}
use Rattle.indexed_connections.proofs.table.IndexedConnectionsConnectionsView.is_supported.Goals as goal

pub returns : goal.returns
returns c = any_counted (supports ListenOnly c.args.point) c.self.inside.connections c.supporters.result (c.supporters.ensures ∙ c.self.invariant.counted.supporters c.args.point) ∙ ap (list_any (supports ListenOnly c.args.point)) c.self.view_is
