use Rattle.std.specs.Prelude.{◌++◌, codes, decimal}
use Rattle.page_feed.specs.Snapshots.{in_use_text}
use Rattle.page_feed.proofs.Pieces.{of_two}
use Rattle.page_feed.proofs.snapshots.push_device_totals.Goals as goal

pub returns : goal.returns
returns c = of_two _ _ _ (in_use_text c.args.totals) (codes ",\"class_3\":" ++ (decimal c.args.totals.class3_connections ++ (codes ",\"ids_left\":" ++ (decimal c.args.totals.ids_left ++ codes "}")))) c.in_ok-write.ensures.bytes c.in_ok-write-2.ensures.bytes
