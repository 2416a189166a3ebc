use Rattle.std.proofs.Common.{◌≡◌, drop}
use Rattle.station_lines.specs.Watch.DatagramCounts.Gaps.{no_gaps, recent_sums}
use Rattle.station_lines.proofs.watch.datagram_counts.gaps.recent_sums.Given as goal

-- the windows that are left lead from the sums so far to those of all
abbrev pub invariant-loop-window : goal.invariant-loop-window
invariant-loop-window l = recent_sums l.newest (drop l.window-index l.windows) l.sums ≡ recent_sums l.newest l.windows no_gaps
