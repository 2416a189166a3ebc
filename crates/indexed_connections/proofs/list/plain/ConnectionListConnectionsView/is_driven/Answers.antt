use Rattle.std.proofs.Common.{rules}
use Rattle.indexed_connections.proofs.list.plain.ConnectionListConnectionsView.is_driven.Goals as goal

pub returns : goal.returns
returns c = search rules
