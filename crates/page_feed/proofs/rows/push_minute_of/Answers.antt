use Rattle.std.proofs.Common.{◌≡◌, ◌++◌, OnOk, subst, string_bytes}
use Rattle.station_lines.specs.declared.watch.datagram_counts.gaps.GapSums.{GapSums}
use Rattle.page_feed.specs.Rows.{minute_text}
use Rattle.page_feed.proofs.rows.push_minute_of.Goals as goal

pub returns : goal.returns
returns c = subst (λ (sums : GapSums). OnOk c.push_minute.result (string_bytes c.push_minute.new.out ≡ string_bytes c.args.out.now ++ minute_text sums)) c.last_minute.ensures c.push_minute.ensures
