use Rattle.std.proofs.Common.{◌∙◌}
use Rattle.trace_files.proofs.Following.{notices_more, notice_streams_more}
use Rattle.trace_files.proofs.pcap.traffic.push_notices.Goals as goal

pub loop-notice-preserved : goal.loop-notice-preserved
loop-notice-preserved c = (
  notices_more _ _ _ _ _ _ _ _ c.loop-notice-test.true c.in_ok-push_notice.ensures.records c.in_ok-push_notice.ensures.streams ∙ c.loop-notice.invariant.0,
  notice_streams_more _ _ _ _ _ c.loop-notice-test.true c.in_ok-push_notice.ensures.streams ∙ c.loop-notice.invariant.1,
)
