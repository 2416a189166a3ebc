use Rattle.std.specs.Prelude.{codes}
use Rattle.page_feed.specs.Snapshots.{connections_below}
use Rattle.page_feed.proofs.Pieces.{of_two}
use Rattle.page_feed.proofs.snapshots.push_connections.Goals as goal

pub returns : goal.returns
returns g c = of_two _ _ _ (connections_below c.args.now_ms c.args.rows.now (g.D.Device.table c.args.device.now) c.args.most) (codes "]") c.in_ok-push_places.ensures c.in_ok-push_text.ensures
