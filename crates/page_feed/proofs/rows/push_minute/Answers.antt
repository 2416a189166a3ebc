use Rattle.std.specs.Prelude.{codes}
use Rattle.page_feed.specs.Rows.{sums_text}
use Rattle.page_feed.proofs.Pieces.{of_three}
use Rattle.page_feed.proofs.rows.push_minute.Goals as goal

pub returns : goal.returns
returns c = of_three _ _ _ _ (codes ",\"minute\":{") (sums_text c.args.sums) (codes "}}") c.in_ok-push_text.ensures c.in_ok-push_sums.ensures c.in_ok-push_text-2.ensures
