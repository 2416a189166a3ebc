use Rattle.std.proofs.Common.{ap, ◌∙◌}
use Rattle.std.specs.List.{list_any}
use Rattle.adapter_table.specs.Rows.{is_timed_out}
use Rattle.indexed_connections.specs.Peers.{has_timed_out_by}
use Rattle.indexed_connections.proofs.Peers.{any_timed_out}
use Rattle.indexed_connections.proofs.table.IndexedConnectionsConnectionsView.has_timed_out.Goals as goal

pub returns : goal.returns
returns c = c.has_any_timed_out.ensures ∙ ap (list_any has_timed_out_by) c.peers.ensures ∙ any_timed_out c.self.inside.connections ∙ ap (list_any is_timed_out) c.self.view_is
