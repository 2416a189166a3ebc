use Rattle.std.proofs.Common.{arith}
use Rattle.cip_types.specs.Indices.{map_more}
use Rattle.station_lines.specs.Watch.DatagramCounts.Gaps.{window_after}
use Rattle.station_lines.proofs.watch.datagram_counts.gaps.note_each.Goals as goal

pub loop-window-preserved : goal.loop-window-preserved
loop-window-preserved c = map_more (window_after c.args.number c.args.gap c.args.moved) c.args.windows.now c.loop-window.windows c.loop-window.window-index _ _ (omega arith) (omega arith) c.loop-window.invariant c.window_after.ensures
