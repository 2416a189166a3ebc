use Rattle.std.proofs.Common.{◌∙◌}
use Rattle.trace_files.proofs.Following.{frames_more, frame_streams_more}
use Rattle.trace_files.proofs.pcap.traffic.push_frames.Goals as goal

pub loop-frame-preserved : goal.loop-frame-preserved
loop-frame-preserved c = (
  frames_more _ _ _ _ _ _ _ _ c.loop-frame-test.true c.frame-item.is c.in_ok-push_frame.ensures.records c.in_ok-push_frame.ensures.streams ∙ c.loop-frame.invariant.0,
  frame_streams_more _ _ _ _ _ c.loop-frame-test.true c.frame-item.is c.in_ok-push_frame.ensures.streams ∙ c.loop-frame.invariant.1,
)
