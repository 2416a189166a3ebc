use Rattle.std.specs.Prelude.{codes}
use Rattle.station_lines.specs.Watch.DatagramCounts.Gaps.{last_minute}
use Rattle.page_feed.specs.Rows.{minute_text, sums_text}
use Rattle.page_feed.proofs.Pieces.{of_three}
use Rattle.page_feed.proofs.rows.push_gaps.Goals as goal

pub returns : goal.returns
returns c = of_three _ _ _ _ (codes ",\"gaps\":{") (sums_text c.args.gaps.whole) (minute_text (last_minute c.args.now_ms c.args.gaps)) c.in_ok-push_text.ensures c.in_ok-push_sums.ensures c.in_ok-push_minute_of.ensures
