use Rattle.std.specs.Prelude.{codes}
use Rattle.page_feed.specs.Points.{outputs_text}
use Rattle.page_feed.proofs.Pieces.{of_three}
use Rattle.page_feed.proofs.snapshots.push_all_outputs.Goals as goal

pub returns : goal.returns
returns g c = of_three _ _ _ _ (codes ",\"outputs\":[") (outputs_text (g.D.Device.table c.args.device.now) c.args.outputs.now) (codes "],\"inputs\":[") c.in_ok-push_text.ensures c.in_ok-push_outputs.ensures c.in_ok-push_text-2.ensures
