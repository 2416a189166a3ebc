use Rattle.std.proofs.Common.{rules}
use Rattle.app_rules.proofs.connections.ListViewConnectionsView.is_full.Goals as goal

pub returns : goal.returns
returns c = search rules
