use Rattle.page_feed.specs.Snapshots.{all_inputs, all_outputs, connections_text}
use Rattle.page_feed.proofs.Pieces.{of_three}
use Rattle.page_feed.proofs.snapshots.push_adapter.Goals as goal

pub returns : goal.returns
returns g c = of_three _ _ _ _ (all_outputs c.args.outputs.now (g.D.Device.table c.args.device.now)) (all_inputs c.args.inputs.now (g.D.Device.table c.args.device.now)) (connections_text c.args.now_ms c.args.rows.now (g.D.Device.table c.args.device.now) 64) c.in_ok-push_all_outputs.ensures c.in_ok-push_all_inputs.ensures c.in_ok-push_connections.ensures
