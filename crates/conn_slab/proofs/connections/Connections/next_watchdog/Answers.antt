use Rattle.std.proofs.Common.{◌∙◌, ap}
use Rattle.conn_slab.specs.Bounds.{next_end}
use Rattle.conn_slab.proofs.Ends.{next_ends}
use Rattle.conn_slab.proofs.connections.Connections.next_watchdog.Goals as goal

pub returns : goal.returns
returns c = c.next_watchdog.ensures ∙ ap next_end c.peers.ensures ∙ next_ends c.args.self.now
