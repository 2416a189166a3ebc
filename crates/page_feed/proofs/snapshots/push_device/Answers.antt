use Rattle.cip_tables.specs.States.{totals_of}
use Rattle.page_feed.specs.Facts.{counts_text}
use Rattle.page_feed.specs.Snapshots.{front_text, parts_text, totals_text}
use Rattle.page_feed.proofs.Pieces.{of_four}
use Rattle.page_feed.proofs.snapshots.push_device.Goals as goal

pub returns : goal.returns
returns g c = of_four _ _ _ _ _ (front_text c.args.config.now c.args.facts) (parts_text c.args.config.now c.args.facts.ms c.args.rows.now (g.D.Device.table c.args.device.now)) (totals_text (totals_of (g.D.Device.table c.args.device.now))) (counts_text c.args.facts) c.in_ok-push_front.ensures c.in_ok-push_parts.ensures c.in_ok-push_totals.ensures c.in_ok-push_counts.ensures
